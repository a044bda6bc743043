-- What a disk held at each moment, and the images that a crash at a moment may leave.
use Rattle.std.specs.Prelude.{◌≡◌, ◌⊎◌, ℕ, ◌+◌, ◌<◌, ◌≤◌, max, List, [], ◌∷◌, ◌++◌, length, take, drop, slice_index}

-- ---- moments
-- a moment: the bytes at the last sync, what a read gives, and the ranges (place, length) that were written since that sync
pub record Moment : Type 0 where
  pub synced : List ℕ
  pub held : List ℕ
  pub written : List (ℕ × ℕ)

-- this moment, and those before it, the newest first
pub record History : Type 0 where
  pub now : Moment
  pub past : List Moment

-- all of them
abbrev pub moments : History → List Moment
moments h = h.now ∷ h.past

-- a disk that holds these bytes, all of them synced, and has no past
abbrev pub beginning : List ℕ → History
beginning bytes = record { now = record { synced = bytes; held = bytes; written = [] }; past = [] }

-- ---- images
-- no written range has this place
abbrev pub IsOutside : List (ℕ × ℕ) → ℕ → Type 0
IsOutside [] place = Unit {0}
IsOutside (range ∷ ranges) place = ((place < range.0) ⊎ (range.0 + range.1 ≤ place)) × IsOutside ranges place

-- the length, or the greatest end of a write where that is greater
abbrev pub greatest_end : List (ℕ × ℕ) → ℕ → ℕ
greatest_end [] len = len
greatest_end (range ∷ ranges) len = max (range.0 + range.1) (greatest_end ranges len)

-- A crash at the moment may leave these bytes: each byte in a range that was written since the last sync may be any, all others are as at that sync, and the length is from the one at that sync to the greatest end of a write.
pub record IsImage (m : Moment) (c : List ℕ) : Type 0 where
  pub no_shorter : length m.synced ≤ length c
  pub no_longer : length c ≤ greatest_end m.written (length m.synced)
  pub kept : (place : ℕ) → place < length m.synced → IsOutside m.written place → slice_index c place ≡ slice_index m.synced place

-- ---- what calls do
-- the bytes with this piece at this place
abbrev pub overwritten : ℕ → List ℕ → List ℕ → List ℕ
overwritten at piece old = take at old ++ piece ++ drop (at + length piece) old

-- one moment more, after a write of so many bytes at this place or an attempt at one; a read then gives `held`
abbrev pub after_write : ℕ → ℕ → List ℕ → History → History
after_write at n held h = record { now = record { synced = h.now.synced; held = held; written = (at, n) ∷ h.now.written }; past = moments h }

-- after a write that succeeded
abbrev pub written : ℕ → List ℕ → History → History
written at piece h = after_write at (length piece) (overwritten at piece h.now.held) h

-- what a write that failed leaves for reads: any bytes in its range, and a length from the one before to its end
pub record IsTorn (at n : ℕ) (old new : List ℕ) : Type 0 where
  pub no_shorter : length old ≤ length new
  pub no_longer : length new ≤ max (length old) (at + n)
  pub kept : (place : ℕ) → place < length old → (place < at) ⊎ (at + n ≤ place) → slice_index new place ≡ slice_index old place

-- a write that failed has not begun, or it is torn
abbrev pub MayWrite : ℕ → List ℕ → History → History → Type 0
MayWrite at piece h new = (new ≡ h) ⊎ ((held : List ℕ) × IsTorn at (length piece) h.now.held held × (new ≡ after_write at (length piece) held h))

-- after a sync that succeeded
abbrev pub after_sync : History → History
after_sync h = record { now = record { synced = h.now.held; held = h.now.held; written = [] }; past = moments h }

-- ---- what was reserved
-- so many writes and syncs, of so many bytes each at most, that end at or below `to`, take no memory
pub record Spare : Type 0 where
  pub to : ℕ
  pub bytes : ℕ
  pub calls : ℕ

-- a call of n bytes that ends there is one of them; a sync is one of 0 bytes that ends at 0
pub record IsCovered (spare : Spare) (end n : ℕ) : Type 0 where
  pub call : 0 < spare.calls
  pub within : end ≤ spare.to
  pub fits : n ≤ spare.bytes

-- at most one call is spent
pub record Spends (old new : Spare) : Type 0 where
  pub to : new.to ≡ old.to
  pub bytes : new.bytes ≡ old.bytes
  pub calls : old.calls ≤ new.calls + 1

-- ---- runs of calls
-- P holds at each of these moments
abbrev pub Each : (Moment → Type 0) → List Moment → Type 0
Each P [] = Unit {0}
Each P (m ∷ ms) = P m × Each P ms

-- from the one history to the other P holds at each moment, the first and the last included
pub record Since (old new : History) (P : Moment → Type 0) : Type 0 where
  pub front : List Moment
  pub goes_on : moments new ≡ front ++ moments old
  pub start : P old.now
  pub each : Each P front

-- each pair of images of the two moments has P
abbrev pub Images : (List ℕ → List ℕ → Type 0) → Moment → Moment → Type 0
Images P m n = (a b : List ℕ) → IsImage m a → IsImage n b → P a b

-- In a run over two disks, at a moment of each taken by itself, each pair of images has P.
abbrev pub Leaves : History → History → History → History → (List ℕ → List ℕ → Type 0) → Type 0
Leaves a a' b b' P = Since a a' (λ m. Since b b' (λ n. Images P m n))
