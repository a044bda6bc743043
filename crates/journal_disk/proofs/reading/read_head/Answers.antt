use Rattle.std.proofs.Common.{refl, ◌∙◌}
use Rattle.journal_disk.proofs.Fronts.{read_ten}
use Rattle.journal_disk.proofs.reading.read_head.Goals as goal

pub returns-clause-generation : goal.returns-clause-generation
returns-clause-generation g c = λ tells.
    let read = c.in_ok-n.ensures.bytes tells in
    c.head_in.ensures.generation ∙ read_ten _ _ _ c.in_ok-n.n refl read.0 read.1
