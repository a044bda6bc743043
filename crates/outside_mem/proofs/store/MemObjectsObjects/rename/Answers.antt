use Rattle.std.proofs.Common.{inl, inr, ◌∙◌}
use Rattle.outside.specs.Contents.{moved}
use Rattle.outside.proofs.Deciding.{true_or_false}
use Rattle.outside_mem.specs.Calls.{is_last}
use Rattle.outside_mem.specs.Fates.{rename_fails, rename_happens, rename_misses}
use Rattle.outside_mem.proofs.Fates.{changed_if, counted_rose, counted_same, failed_by, happens_if, idle, kept_if, missed_idle, none_renamed, or_second}
use Rattle.outside_mem.proofs.Stored.{held-renamed, move_crossed, move-crossed}
use Rattle.outside_mem.proofs.store.MemObjectsObjects.rename.Goals as goal

pub returns-clause-moves : goal.returns-clause-moves
returns-clause-moves c =
    let store = c.args.self.now in
    happens_if (moved c.args.from.now c.args.to) store.objects _ _ c.try_rename.result (rename_happens store c.args.from.now c.args.to) c.try_rename.ensures.objects
    (λ k. held-renamed c.args.from.now c.args.to k store.objects)
    (λ h. c.try_rename.ensures.answer ∙ idle store.calls.renames (is_last store.changes) (rename_misses store c.args.from.now c.args.to) h)

pub returns-clause-failed : goal.returns-clause-failed
returns-clause-failed c =
    let store = c.args.self.now in
    failed_by (rename_fails store) (rename_misses store c.args.from.now c.args.to) c.try_rename.result _ c.try_rename.ensures.answer
    (λ h. inl (counted_rose _ _ _ c.try_rename.ensures.faults h))
    (λ h. inr (move_crossed c.args.from.now c.args.to store.objects h))

pub returns-clause-missed : goal.returns-clause-missed
returns-clause-missed c = λ crossed.
    let store = c.args.self.now in
    let missed = move-crossed c.args.from.now c.args.to store.objects crossed in
    (c.try_rename.ensures.answer ∙ or_second (rename_fails store) _ missed, counted_rose _ _ _ c.try_rename.ensures.misses missed, kept_if store.objects _ _ (rename_happens store c.args.from.now c.args.to) c.try_rename.ensures.objects (missed_idle _ _ missed))

pub returns-clause-met : goal.returns-clause-met
returns-clause-met c = λ apart.
    let store = c.args.self.now in
    elim (true_or_false (rename_misses store c.args.from.now c.args.to)) [ inl h ↦ absurd (apart (move_crossed c.args.from.now c.args.to store.objects h)) | inr h ↦ counted_same _ _ _ c.try_rename.ensures.misses h ]

pub returns-clause-changes : goal.returns-clause-changes
returns-clause-changes c =
    let store = c.args.self.now in
    changed_if store.objects _ _ _ _ (rename_happens store c.args.from.now c.args.to) _ c.try_rename.ensures.objects c.try_rename.ensures.changed (none_renamed c.args.from.now c.args.to store.objects)
