use Rattle.std.proofs.Common.{◌≡◌, ◌-◌, ◌≤◌, length, IsTrue}
use Rattle.journal_disk.specs.Closing.{IsWriting}
use Rattle.journal_disk.specs.Staging.{SpendsCalls}
use Rattle.journal_disk.proofs.Counts.{AreCounted, HavePassed}
use Rattle.journal_disk.proofs.closing.write_pieces.Given as goal

abbrev pub invariant-loop-at : goal.invariant-loop-at
invariant-loop-at g l = record {
  within : l.at ≤ length l.text;
  counted : AreCounted l.at l.count (length l.text);
  writing : IsTrue (g.D.Disk.tells l.fn.area.disk) → IsWriting l.text l.at (g.D.Disk.history l.fn.area.disk) (g.D.Disk.history l.area.disk);
  tells : g.D.Disk.tells l.area.disk ≡ g.D.Disk.tells l.fn.area.disk;
  spare : SpendsCalls l.count (g.D.Disk.spare l.fn.area.disk) (g.D.Disk.spare l.area.disk);
  burns : HavePassed l.count l.fn.area.fuse l.area.fuse (g.D.Disk.faults l.fn.area.disk) (g.D.Disk.faults l.area.disk);
}

abbrev pub decreases-loop-at : goal.decreases-loop-at
decreases-loop-at g l = length l.text - l.at
