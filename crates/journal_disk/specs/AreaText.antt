-- The text of an area, and what any bytes of an area are read as.
use Rattle.std.specs.Prelude.{◌≡◌, ℕ, zero, suc, ◌+◌, Bool, false, not, ◌&&◌, ◌==◌, nat_le, List, [], ◌∷◌, ◌++◌, length, take, drop, slice_index, sum_by, Option, Some, None, Result, Ok, Err, if◌then◌else◌}
use Rattle.std.specs.List.{flat_map}
use Rattle.std.specs.Int.{from_be_bytes, w64}
use Rattle.journal_entry.specs.declared.entry.Entry.{Entry}
use Rattle.journal_entry.specs.EntryText.{entry_text}
use Rattle.journal_entry.specs.Fields.{eight_bytes}
use Rattle.journal_entry.specs.Reading.{entry_at}

-- ---- the text
-- an open gate and an entry's text
abbrev pub gated : Entry → List ℕ
gated e = 1 ∷ entry_text e

-- what stands behind the head gate: the generation, each entry behind an open gate, and a closed gate
abbrev pub behind_head : ℕ → List Entry → List ℕ
behind_head generation entries = eight_bytes generation ++ flat_map gated entries ++ 0 ∷ []

-- the text of an open area
abbrev pub area_text : ℕ → List Entry → List ℕ
area_text generation entries = 1 ∷ behind_head generation entries

-- an area's bytes: its text, and anything behind the closed gate
abbrev pub IsAreaText : ℕ → List Entry → List ℕ → Type 0
IsAreaText generation entries bytes = (rest : List ℕ) × (bytes ≡ area_text generation entries ++ rest)

-- the place of the closed gate
abbrev pub gate_behind : List Entry → ℕ
gate_behind entries = 9 + sum_by (λ e. 1 + length (entry_text e)) entries

-- and behind one entry more
abbrev pub next_gate : ℕ → Entry → ℕ
next_gate gate e = gate + 1 + length (entry_text e)

-- ---- reading
-- the entries up to a closed gate and the place of that gate, or the place of the damage
abbrev pub Read : Type 0
Read = Result (List Entry × ℕ) ℕ

abbrev pub with_front : List Entry → Read → Read
with_front front (Ok x) = Ok (front ++ x.0, x.1)
with_front front (Err place) = Err place

-- behind an open gate at this place: the entry, and what is read behind it
abbrev pub behind : Option (Entry × ℕ) → ℕ → (ℕ → Read) → Read
behind None place rest = Err place
behind (Some found) place rest = with_front (found.0 ∷ []) (rest found.1)

-- passes over so many bytes, and reads gates and entries from there
abbrev pub walk : ℕ → ℕ → List ℕ → Read
walk skip place [] = Err place
walk (suc skip) place (b ∷ bytes) = walk skip (place + 1) bytes
walk zero place (gate ∷ bytes) = if gate == 0 then Ok ([], place) else behind (entry_at bytes) place (λ n. walk n (place + 1) bytes)

-- what an open area is read as
abbrev pub area_of : List ℕ → Read
area_of bytes = walk 0 9 (drop 9 bytes)

-- the generation of an area that is open: it has ten bytes, and its head gate is open
unfoldable pub head_of : List ℕ → Option ℕ
head_of bytes = if nat_le 10 (length bytes) && not (slice_index bytes 0 == 0) then Some (from_be_bytes w64 (take 8 (drop 1 bytes))) else None

-- whether the head gate is there and closed
abbrev pub is_shut : List ℕ → Bool
is_shut [] = false
is_shut (gate ∷ bytes) = gate == 0
