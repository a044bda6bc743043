use Rattle.std.proofs.Common.{not, sym, ap, ◌∙◌}
use Rattle.cluster_core.specs.Shown.{first_has}
use Rattle.cluster_core.proofs.Shown.{any_later}
use Rattle.cluster_core.proofs.stating.Core+D+O+O+Reader+O+Writer.lacks_some.Goals as goal

pub loop-block-preserved : goal.loop-block-preserved
loop-block-preserved g c =
    sym (any_later (λ i. not (first_has c.args.self.now.workers.items c.args.file i)) c.loop-block.block c.block_count-block-end.result c.loop-block-test.true
    (ap not (sym c.first_has.ensures ∙ c.if-not-first_has.false))) ∙ c.loop-block.invariant
