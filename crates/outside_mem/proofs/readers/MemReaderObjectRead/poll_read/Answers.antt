use Rattle.std.proofs.Common.{Some, ap}
use Rattle.outside_mem.proofs.Fronts.{rest_given}
use Rattle.outside_mem.proofs.readers.MemReaderObjectRead.poll_read.Goals as goal

pub returns-clause-bytes : goal.returns-clause-bytes
returns-clause-bytes c =
    let reader = c.args.self.now in
    let copied = rw c.deref.ensures.value at c.copy_front-count.ensures in
    ap Some (rest_given reader.bytes.items c.copy_front-count.new.to reader.at c.copy_front-count.result copied.copied)
