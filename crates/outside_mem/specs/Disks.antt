-- What a disk in memory tells, and what becomes of its calls.
use Rattle.std.specs.Prelude.{ℕ, Bool, false, List, length, replicate, if◌then◌else◌}
use Rattle.outside.specs.History.{History, Spare, after_sync, written}
use Rattle.outside_mem.specs.Calls.{change_fails, change_happens, fails_next}
use Rattle.outside_mem.specs.DiskLogs.{log_history, log_spare}
use Rattle.outside_mem.specs.declared.disk.MemDisk.{MemDisk}

abbrev pub disk_history : MemDisk → History
disk_history disk = log_history disk.log

abbrev pub disk_spare : MemDisk → Spare
disk_spare disk = log_spare disk.log

-- the next write is to fail
abbrev pub write_fails : MemDisk → Bool
write_fails disk = change_fails disk.calls.writes false

-- the bytes that the next write leaves in its range, where it begins: its own, or the same byte at each place where it fails
abbrev pub write_leaves : MemDisk → List ℕ → List ℕ
write_leaves disk piece = if write_fails disk then replicate (length piece) disk.torn else piece

-- after the next write; one that fails and isn't listed as happening doesn't begin
abbrev pub history_after_write : MemDisk → ℕ → List ℕ → History
history_after_write disk at piece = if change_happens disk.calls.writes false then written at (write_leaves disk piece) (disk_history disk) else disk_history disk

-- after the next sync
abbrev pub history_after_sync : MemDisk → History
history_after_sync disk = if fails_next disk.calls.syncs then disk_history disk else after_sync (disk_history disk)
