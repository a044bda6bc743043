use Rattle.std.proofs.Common.{false, subst, sym}
use Rattle.outside.specs.History.{MayWrite}
use Rattle.outside_mem.specs.Calls.{change_happens}
use Rattle.outside_mem.specs.Disks.{disk_history, write_fails}
use Rattle.outside_mem.proofs.Disks.{may_write, whatever}
use Rattle.outside_mem.proofs.Fates.{cause_of}
use Rattle.outside_mem.proofs.disk.MemDiskDisk.write_at.Goals as goal

pub returns-clause-err : goal.returns-clause-err
returns-clause-err c = λ _.
    let disk = c.args.self.now in
    let may = may_write c.args.at c.args.piece.now disk.torn (disk_history disk) (write_fails disk) (change_happens disk.calls.writes false) in
    whatever c.try_write.result _ (subst (λ h. MayWrite c.args.at c.args.piece.now (disk_history disk) h) (sym c.try_write.ensures.after) may)

pub returns-clause-cause : goal.returns-clause-cause
returns-clause-cause c = cause_of _ _ (write_fails c.args.self.now) c.try_write.result c.try_write.ensures.answer c.try_write.ensures.faults c.try_write.ensures.later
