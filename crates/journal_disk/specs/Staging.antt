-- What a write with a sync behind it leaves, and what an append makes of two of them.
use Rattle.std.specs.Prelude.{◌≡◌, ◌⊎◌, ℕ, ◌+◌, ◌≤◌, true, List, [], ◌∷◌, ◌++◌, length}
use Rattle.outside.specs.History.{History, Moment, Spare, after_sync, after_write, written}
use Rattle.journal_entry.specs.declared.entry.Entry.{Entry}
use Rattle.journal_entry.specs.EntryText.{entry_text, is_entry}
use Rattle.journal_disk.specs.AreaText.{next_gate}
use Rattle.journal_disk.specs.Journaling.{IsArea, IsAtRest}

-- a moment of a write and a sync: the one before them, one after the write or an attempt at it, or the one after the sync
abbrev pub IsStage : ℕ → List ℕ → History → Moment → Type 0
IsStage at piece h m = (m ≡ h.now) ⊎ (((held : List ℕ) × (m ≡ (after_write at (length piece) held h).now)) ⊎ (m ≡ (after_sync (written at piece h)).now))

-- so many calls at most are spent
pub record SpendsCalls (calls : ℕ) (old new : Spare) : Type 0 where
  pub to : new.to ≡ old.to
  pub bytes : new.bytes ≡ old.bytes
  pub left : old.calls ≤ new.calls + calls

-- an area that is at rest with these entries
pub record IsResting (h : History) (generation : ℕ) (entries : List Entry) (gate : ℕ) : Type 0 where
  pub rest : IsAtRest h.now
  pub area : IsArea h.now.held generation entries gate

-- these bytes are an area with these entries, or with one more
abbrev pub IsAreaOrMore : ℕ → List Entry → ℕ → Entry → List ℕ → Type 0
IsAreaOrMore generation entries gate e c = IsArea c generation entries gate ⊎ IsArea c generation (entries ++ e ∷ []) (next_gate gate e)

-- the piece that an append writes: an entry's text and a closed gate
pub record IsPiece (piece : List ℕ) (e : Entry) : Type 0 where
  pub entry : is_entry e ≡ true
  pub bytes : piece ≡ entry_text e ++ 0 ∷ []
