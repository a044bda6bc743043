use Rattle.std.proofs.Common.{◌≡◌, ◌-◌, ◌<◌, length, take, IsTrue}
use Rattle.journal_disk.specs.Opening.{IsRead}
use Rattle.journal_disk.proofs.reading.read_pieces.Given as goal

abbrev pub invariant-loop-at : goal.invariant-loop-at
invariant-loop-at g l = record {
  read : IsRead g.D.Disk l.fn.area l.area;
  room : 0 < length l.piece;
  whole : IsTrue (g.D.Disk.tells l.fn.area.disk) → l.len ≡ length (g.D.Disk.history l.fn.area.disk).now.held;
  so_far : IsTrue (g.D.Disk.tells l.fn.area.disk) → l.bytes.items ≡ take l.at (g.D.Disk.history l.fn.area.disk).now.held;
}

abbrev pub decreases-loop-at : goal.decreases-loop-at
decreases-loop-at g l = l.len - l.at
