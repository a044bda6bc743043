use Rattle.std.proofs.Common.{sym, ap, ◌∙◌}
use Rattle.cluster_core.specs.LabelsView.{hand_in}
use Rattle.cluster_core.proofs.SlotRows.{hand_in-some, hand_in-none}
use Rattle.cluster_core.proofs.labels.Labels.get.Goals as goal

pub returns-in-None : goal.returns-in-None
returns-in-None g c =
    sym (hand_in-none c.self.inside.rows c.args.label.now (sym c.in-None.ensures.there)) ∙ ap (λ s. hand_in s c.args.label.now) c.self.view_is

pub returns-in-Some : goal.returns-in-Some
returns-in-Some g c =
    sym (hand_in-some c.self.inside.rows c.args.label.now c.index.result.now (sym c.in-Some.ensures.found ∙ c.index.ensures)) ∙ ap (λ s. hand_in s c.args.label.now) c.self.view_is
