use Rattle.std.proofs.Common.{is_some, sym, ap, ◌∙◌}
use Rattle.cluster_core.specs.LabelsView.{hand_in}
use Rattle.cluster_core.proofs.SlotRows.{hand_in-is_some}
use Rattle.cluster_core.proofs.labels.Labels.contains.Goals as goal

pub returns : goal.returns
returns g c =
    c.is_some.ensures ∙ c.key_of.ensures.there ∙ sym (hand_in-is_some c.self.inside.rows c.args.label.now)
    ∙ ap (λ s. is_some (hand_in s c.args.label.now)) c.self.view_is
