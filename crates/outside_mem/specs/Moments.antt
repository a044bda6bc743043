-- The moments of a disk, by their number.
use Rattle.std.specs.Prelude.{ℕ, ◌-◌, List, [], ◌∷◌, Option, None, IsSomeAnd, length, min, nat_le, replicate, reverse, if◌then◌else◌}
use Rattle.std.specs.List.{slice_get}
use Rattle.outside.specs.History.{History, IsImage, Moment, moments, overwritten}
use Rattle.outside_mem.specs.DiskHistory.{after_one, behind}
use Rattle.outside_mem.specs.declared.disk_log.DiskCall.{DiskCall}
use Rattle.outside_mem.specs.declared.moment.Pick.{Pick}

-- the moment of this number, of which the first has the number 0
abbrev pub moment_at : History → ℕ → Option Moment
moment_at h number = if nat_le number (length h.past) then slice_get (moments h) (length h.past - number) else None

-- the moment after a call, from the one before it
abbrev pub moment_after : List ℕ → DiskCall → Moment → Moment
moment_after bytes call m = (after_one bytes call (record { now = m; past = [] })).now

-- the moment after calls
abbrev pub moment_after_all : List ℕ → List DiskCall → Moment → Moment
moment_after_all bytes [] m = m
moment_after_all bytes (call ∷ calls) m = moment_after_all (behind bytes call) calls (moment_after bytes call m)

-- ---- images

-- the same byte at each place of a range that there is
abbrev pub filled : ℕ → ℕ × ℕ → List ℕ → List ℕ
filled byte range bytes = overwritten range.0 (replicate (min range.1 (length bytes - range.0)) byte) bytes

-- and so it is with several ranges
abbrev pub filled_all : ℕ → List (ℕ × ℕ) → List ℕ → List ℕ
filled_all byte [] bytes = bytes
filled_all byte (range ∷ ranges) bytes = filled_all byte ranges (filled byte range bytes)

-- the image of a moment that is picked
abbrev pub picked : Pick → Moment → List ℕ
picked Pick.Old m = m.synced
picked Pick.New m = m.held
picked (Pick.Torn byte) m = filled_all byte (reverse m.written) m.held

-- a crash at the moment of this number, which there is, may leave these bytes
abbrev pub IsImageAt : History → ℕ → List ℕ → Type 0
IsImageAt h number bytes = IsSomeAnd (moment_at h number) (λ m. IsImage m bytes)
