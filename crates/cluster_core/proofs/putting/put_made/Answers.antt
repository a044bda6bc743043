use Rattle.std.proofs.Common.{min, ap, ◌∙◌}
use Rattle.cluster_core.specs.Putting.{missing}
use Rattle.cluster_core.proofs.PutGo.{made_did}
use Rattle.cluster_core.proofs.putting.put_made.Goals as goal

pub returns-in-Ok : goal.returns-in-Ok
returns-in-Ok g c = λ _.
    made_did g.W.ObjectWrite c.args.block c.args.num c.args.at c.args.len c.fitting-count.result c.args.writer.now c.put_piece.new.writer c.as_slice.result.now (c.as_slice.ensures.value ∙ c.in-Ok.ensures)
    (c.fitting-count.ensures ∙ ap (λ b. min c.args.len (missing c.args.block b)) c.open_len.ensures) c.put_piece.result c.put_piece.ensures
