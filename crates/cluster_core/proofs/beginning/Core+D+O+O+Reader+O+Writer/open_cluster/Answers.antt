use Rattle.std.proofs.Common.{◌∙◌, ap, length, subst, sym}
use Rattle.std.specs.List.{All}
use Rattle.master_node.specs.Mastering.{IsKept}
use Rattle.master_node.specs.Recovery.{IsOver}
use Rattle.cluster_core.specs.Begun.{HasNone}
use Rattle.cluster_core.proofs.FirstState.{begin_stands, fresh_first, over_tells}
use Rattle.cluster_core.proofs.SteadyStay.{first_steady}
use Rattle.cluster_core.proofs.beginning.Core+D+O+O+Reader+O+Writer.open_cluster.Goals as goal

pub returns-in-Ok-recover-clause-stands : goal.returns-in-Ok-recover-clause-stands
returns-in-Ok-recover-clause-stands g c = λ V b empty fresh.
    let core = c.core_over.result in
    let labels = c.core_over.ensures.hands in
    let over = subst (λ m. IsOver g.D.Disk c.args.setup.now (c.args.media.areas).0 (c.args.media.areas).1 m) (sym c.core_over.ensures.master) c.in-Ok-recover.ensures.over in
    begin_stands g.O.Objects g.O.Reader.ObjectRead g.O.Writer.ObjectWrite c.args.setup.now V b c.args.media core c.core_over.ensures.block over.limited
    (fresh_first g.D.Disk c.args.setup.now (c.args.media.areas).0 (c.args.media.areas).1 core.master over fresh.0 fresh.1) over.up over.unfused
    c.core_over.ensures.books c.core_over.ensures.rows c.core_over.ensures.tiers (ap (λ l. length l.items) labels ∙ c.in-Ok.ensures.actors) (subst (λ l. All HasNone l.items) (sym labels) c.in-Ok.ensures.none) empty
    (over_tells g.D.Disk c.args.setup.now (c.args.media.areas).0 (c.args.media.areas).1 core.master over fresh.0)
    (subst (IsKept g.D.Disk) (sym c.core_over.ensures.master) c.in-Ok-recover.ensures.kept)

pub returns-in-Ok-recover-clause-kept : goal.returns-in-Ok-recover-clause-kept
returns-in-Ok-recover-clause-kept g c = subst (IsKept g.D.Disk) (sym c.core_over.ensures.master) c.in-Ok-recover.ensures.kept

pub returns-in-Ok-recover-clause-steady : goal.returns-in-Ok-recover-clause-steady
returns-in-Ok-recover-clause-steady g c =
    let labels = c.core_over.ensures.hands in
    first_steady g.O.Objects g.O.Reader.ObjectRead g.O.Writer.ObjectWrite c.core_over.result c.args.media c.core_over.ensures.tiers (subst (λ l. All HasNone l.items) (sym labels) c.in-Ok.ensures.none)
