use Rattle.std.proofs.Common.{sym, ap, ◌∙◌}
use Rattle.cluster_core.specs.LabelsView.{count}
use Rattle.cluster_core.proofs.SlotRows.{count_in_slab}
use Rattle.cluster_core.proofs.labels.Labels.len.Goals as goal

pub returns : goal.returns
returns g c = c.len.ensures ∙ sym (count_in_slab c.self.inside.rows) ∙ ap count c.self.view_is
