-- What the log of a disk in memory tells.
use Rattle.outside.specs.History.{History, Spare}
use Rattle.outside_mem.specs.DiskHistory.{history_by}
use Rattle.outside_mem.specs.declared.disk_log.DiskLog.{DiskLog}

abbrev pub log_history : DiskLog → History
log_history log = history_by log.held.items log.first.items log.bytes.items log.calls.items

abbrev pub log_spare : DiskLog → Spare
log_spare log = record { to = log.to; bytes = log.most; calls = log.left }
