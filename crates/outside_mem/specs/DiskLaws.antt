-- What a read of a disk in memory gives is an image.
use Rattle.std.proofs.Common.{◌≡◌, ℕ, ◌<◌, ◌≤◌, ◌+◌, ◌-◌, List, [], ◌∷◌, ◌++◌, inl, inr, length, take, drop, min, refl, ◌∙◌, ap, arith}
use Rattle.std.specs.Prelude.{slice_index}
use Rattle.std.proofs.lemmas.List.{get_or_append_left, get_or-append_right, get_or-drop, get_or-take, length-append, length-drop, length-take}
use Rattle.outside.specs.History.{History, IsImage, IsTorn, Moment, after_sync, beginning, overwritten, written}
use Rattle.outside_mem.specs.DiskHistory.{after_all, after_one, behind, first_of, history_by}
use Rattle.outside_mem.specs.declared.disk_log.DiskCall.{DiskCall}

-- ---- a piece over others

pub overwritten_len : (at : ℕ) (piece old : List ℕ) → length (overwritten at piece old) ≡ min at (length old) + length piece + (length old - (at + length piece))
overwritten_len at piece old = omega (arith, length-append (take at old ++ piece) (drop (at + length piece) old), length-append (take at old) piece, length-take at old, length-drop (at + length piece) old)

-- below the piece all is as before
pub before_piece : (at : ℕ) (piece old : List ℕ) (place : ℕ) → place < length old → place < at → slice_index (overwritten at piece old) place ≡ slice_index old place
before_piece at piece old place within below =
    let front : place < length (take at old) = omega (arith, length-take at old, within, below) in
    get_or_append_left (take at old ++ piece) (drop (at + length piece) old) 0 place (omega (arith, length-append (take at old) piece, front))
    ∙ get_or_append_left (take at old) piece 0 place front
    ∙ get_or-take at old place 0 below

-- and so it is behind it
pub behind_piece : (at : ℕ) (piece old : List ℕ) (place : ℕ) → place < length old → at + length piece ≤ place → slice_index (overwritten at piece old) place ≡ slice_index old place
behind_piece at piece old place within behind =
    let end = at + length piece in
    let len : length (take at old ++ piece) ≡ end = omega (arith, length-append (take at old) piece, length-take at old, within, behind) in
    get_or-append_right (take at old ++ piece) (drop end old) end place 0 len behind
    ∙ get_or-drop end old (place - end) 0
    ∙ ap (slice_index old) (omega (arith, behind))

-- a write that is done, of its piece or of other bytes, is one of the ways in which it may be torn
pub torn : (at : ℕ) (piece old : List ℕ) → IsTorn at (length piece) old (overwritten at piece old)
torn at piece old = record {
  no_shorter = omega (arith, overwritten_len at piece old);
  no_longer = omega (arith, overwritten_len at piece old);
  kept = λ place within apart. elim apart [ inl below ↦ before_piece at piece old place within below | inr behind ↦ behind_piece at piece old place within behind ];
}

-- ---- images

-- of a moment, what a read gives is an image
abbrev pub IsRead : Moment → Type 0
IsRead m = IsImage m m.held

pub read_first : (bytes : List ℕ) → IsRead (beginning bytes).now
read_first bytes = record { no_shorter = omega arith; no_longer = omega arith; kept = λ place within apart. refl }

read_written : (at : ℕ) (piece : List ℕ) (h : History) → IsRead h.now → IsRead (written at piece h).now
read_written at piece h read =
    let t = torn at piece h.now.held in
    record {
      no_shorter = omega (arith, read.no_shorter, t.no_shorter);
      no_longer = omega (arith, read.no_longer, t.no_longer);
      kept = λ place within apart. t.kept place (omega (arith, within, read.no_shorter)) apart.0 ∙ read.kept place within apart.1;
    }

read_synced : (h : History) → IsRead (after_sync h).now
read_synced h = record { no_shorter = omega arith; no_longer = omega arith; kept = λ place within apart. refl }

read_one : (bytes : List ℕ) (call : DiskCall) (h : History) → IsRead h.now → IsRead (after_one bytes call h).now
read_one bytes (DiskCall.Write at len) h read = read_written at (take len bytes) h read
read_one bytes DiskCall.Sync h read = read_synced h

pub read_all : (bytes : List ℕ) (calls : List DiskCall) (h : History) → IsRead h.now → IsRead (after_all bytes calls h).now
read_all bytes [] h read = read
read_all bytes (call ∷ calls) h read = read_all (behind bytes call) calls (after_one bytes call h) (read_one bytes call h read)

pub read_image : (held first bytes : List ℕ) (calls : List DiskCall) → let h = history_by held first bytes calls in IsImage h.now h.now.held
read_image held first bytes calls = read_all bytes calls (beginning (first_of held first calls)) (read_first (first_of held first calls))
