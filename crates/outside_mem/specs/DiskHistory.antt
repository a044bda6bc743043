-- The history that the kept calls of a disk in memory tell.
use Rattle.std.specs.Prelude.{ℕ, ◌+◌, ◌-◌, List, [], ◌∷◌, take, drop}
use Rattle.outside.specs.History.{History, Spare, after_sync, beginning, written}
use Rattle.outside_mem.specs.declared.disk_log.DiskCall.{DiskCall}

-- ---- calls; the bytes of all writes lie one after another

-- after a call, whose bytes are the first of these
abbrev pub after_one : List ℕ → DiskCall → History → History
after_one bytes (DiskCall.Write at len) h = written at (take len bytes) h
after_one bytes DiskCall.Sync h = after_sync h

-- the bytes of the calls after it
abbrev pub behind : List ℕ → DiskCall → List ℕ
behind bytes (DiskCall.Write at len) = drop len bytes
behind bytes DiskCall.Sync = bytes

-- after calls
abbrev pub after_all : List ℕ → List DiskCall → History → History
after_all bytes [] h = h
after_all bytes (call ∷ calls) h = after_all (behind bytes call) calls (after_one bytes call h)

-- how many bytes a call wrote
abbrev pub call_len : DiskCall → ℕ
call_len (DiskCall.Write at len) = len
call_len DiskCall.Sync = 0

-- how many bytes calls wrote
abbrev pub all_len : List DiskCall → ℕ
all_len [] = 0
all_len (call ∷ calls) = call_len call + all_len calls

-- ---- what a disk keeps

-- what it held at first: a copy was made before the first call was kept, and until then it is what is held
abbrev pub first_of : List ℕ → List ℕ → List DiskCall → List ℕ
first_of held first [] = held
first_of held first (call ∷ calls) = first

-- what it tells, by what is held, what was held at first, the bytes of writes, and the calls
abbrev pub history_by : List ℕ → List ℕ → List ℕ → List DiskCall → History
history_by held first bytes calls = after_all bytes calls (beginning (first_of held first calls))

-- one call less is reserved
abbrev pub spent : Spare → Spare
spent spare = record spare { calls = spare.calls - 1 }
