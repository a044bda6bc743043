use Rattle.std.proofs.Common.{◌+◌, sym, ap, ◌∙◌, cond, Some}
use Rattle.fs_model.specs.Words.{name_eq}
use Rattle.cluster_core.specs.LabelsView.{hand_in, count}
use Rattle.cluster_core.proofs.SlotRows.{count_in_slab, once_with, hands_with}
use Rattle.cluster_core.proofs.labels.Labels.put.Goals as goal

pub invariant_of-self : goal.invariant_of-self
invariant_of-self g c =
    let did = c.insert_reserved.ensures in
    once_with c.self.inside.rows c.insert_reserved.new.self c.insert_reserved.result c.args.row c.self.invariant did.was_vacant did.updates (ap (λ s. hand_in s c.args.row.label) c.self.view_is ∙ c.requires.absent)

pub returns-clause-hands : goal.returns-clause-hands
returns-clause-hands g c l =
    let did = c.insert_reserved.ensures in
    hands_with c.self.inside.rows c.insert_reserved.new.self c.insert_reserved.result c.args.row c.self.invariant did.was_vacant did.updates (ap (λ s. hand_in s c.args.row.label) c.self.view_is ∙ c.requires.absent) l
    ∙ ap (λ s. cond (name_eq c.args.row.label l) (Some c.args.row.hand) (hand_in s l)) c.self.view_is

pub returns-clause-count : goal.returns-clause-count
returns-clause-count g c =
    count_in_slab c.insert_reserved.new.self ∙ c.insert_reserved.ensures.len
    ∙ ap (λ n. n + 1) (sym (count_in_slab c.self.inside.rows) ∙ ap count c.self.view_is)
