use Rattle.std.proofs.Common.{◌+◌, None, cond, sym, ap, ◌∙◌}
use Rattle.fs_model.specs.Words.{name_eq}
use Rattle.cluster_core.specs.LabelsView.{hand_in, count}
use Rattle.cluster_core.specs.LabelSlots.{labels_of}
use Rattle.cluster_core.proofs.SlotRows.{hand_in-some, hand_in-none, hands_without_none, has_its_label, hands_without, gone_without, count_in_slab}
use Rattle.cluster_core.proofs.labels.Labels.take.Goals as goal

pub returns-in-None-clause-hand : goal.returns-in-None-clause-hand
returns-in-None-clause-hand g c =
    sym (hand_in-none c.self.inside.rows c.args.label.now (sym c.in-None.ensures.there)) ∙ ap (λ s. hand_in s c.args.label.now) c.self.view_is

pub returns-in-None-clause-hands : goal.returns-in-None-clause-hands
returns-in-None-clause-hands g c l =
    ap (λ s. hand_in s l) (sym c.self.view_is)
    ∙ hands_without_none c.self.inside.rows c.args.label.now l (sym c.in-None.ensures.there)
    ∙ ap (λ s. cond (name_eq c.args.label.now l) None (hand_in s l)) c.self.view_is

pub returns-in-Some-clause-hand : goal.returns-in-Some-clause-hand
returns-in-Some-clause-hand g c =
    sym (hand_in-some c.self.inside.rows c.args.label.now c.remove.result (sym c.in-Some.ensures.found ∙ c.remove.ensures.value)) ∙ ap (λ s. hand_in s c.args.label.now) c.self.view_is

pub returns-in-Some-clause-label : goal.returns-in-Some-clause-label
returns-in-Some-clause-label g c = has_its_label c.self.inside.rows.slots c.args.label.now c.remove.result (sym c.in-Some.ensures.found ∙ c.remove.ensures.value)

pub returns-in-Some-clause-hands : goal.returns-in-Some-clause-hands
returns-in-Some-clause-hands g c l =
    hands_without c.self.inside.rows c.remove.new.self c.in-Some.key c.remove.result c.self.invariant c.remove.ensures.value c.remove.ensures.updates l
    ∙ ap (λ k. cond (name_eq k l) None (hand_in (labels_of c.self.inside.rows) l)) (has_its_label c.self.inside.rows.slots c.args.label.now c.remove.result (sym c.in-Some.ensures.found ∙ c.remove.ensures.value))
    ∙ ap (λ s. cond (name_eq c.args.label.now l) None (hand_in s l)) c.self.view_is

pub returns-in-Some-clause-count : goal.returns-in-Some-clause-count
returns-in-Some-clause-count g c =
    ap count (sym c.self.view_is) ∙ count_in_slab c.self.inside.rows ∙ sym c.remove.ensures.len
    ∙ ap (λ n. n + 1) (sym (count_in_slab c.remove.new.self))

pub returns-in-Some-clause-gone : goal.returns-in-Some-clause-gone
returns-in-Some-clause-gone g c =
    gone_without c.remove.new.self c.remove.result.label (hand_in (labels_of c.self.inside.rows) c.remove.result.label)
    (hands_without c.self.inside.rows c.remove.new.self c.in-Some.key c.remove.result c.self.invariant c.remove.ensures.value c.remove.ensures.updates c.remove.result.label)
