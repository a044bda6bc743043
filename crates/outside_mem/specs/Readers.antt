-- What the readers of a store in memory have left, and what a poll of theirs gives.
use Rattle.std.specs.Prelude.{ℕ, Bool, ◌&&◌, List, drop, length, min, if◌then◌else◌}
use Rattle.outside.specs.Causes.{next_count}
use Rattle.outside.specs.declared.objects.Got.{Got}
use Rattle.outside_mem.specs.Failures.{is_failing, is_quiet}
use Rattle.outside_mem.specs.declared.readers.MemReader.{MemReader}

-- the bytes of its range that a reader hasn't given yet
abbrev pub unread_of : MemReader → List ℕ
unread_of reader = drop reader.at reader.bytes.items

-- what the next poll gives: it fails or isn't ready where a list says so, failing first, and else it gives as many bytes as are left and as fit
abbrev pub poll_of : MemReader → ℕ → Got
poll_of reader room = if is_failing reader.failing (next_count reader.calls) then Got.Fault else (if is_failing reader.waiting (next_count reader.calls) then Got.NotReady else Got.Bytes (min (length (unread_of reader)) room))

-- no poll of a reader is to fail or to wait
abbrev pub is_steady_reader : MemReader → Bool
is_steady_reader reader = is_quiet reader.failing && is_quiet reader.waiting
