use Rattle.std.proofs.Common.{subst, sym, ◌∙◌}
use Rattle.outside_mem.specs.DiskHistory.{first_of}
use Rattle.outside_mem.specs.Disks.{disk_history}
use Rattle.outside_mem.specs.Moments.{IsImageAt}
use Rattle.outside_mem.proofs.Images.{image_at}
use Rattle.outside_mem.proofs.disk.MemDisk.image.Goals as goal

pub returns-clause-crash : goal.returns-clause-crash
returns-clause-crash c =
    let log = c.args.self.now.log in
    let first = first_of log.held.items log.first.items log.calls.items in
    let image = image_at c.args.pick log.bytes.items first log.calls.items c.args.number c.in-Some.moment (sym c.in-Some.is ∙ c.in_ok-moment.ensures) in
    subst (λ bytes. IsImageAt (disk_history c.args.self.now) c.args.number bytes) (sym c.into_image.ensures) image
