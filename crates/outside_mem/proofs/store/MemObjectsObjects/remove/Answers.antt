use Rattle.std.proofs.Common.{◌∙◌, None}
use Rattle.outside.specs.Contents.{put_at}
use Rattle.outside_mem.specs.Calls.{is_last}
use Rattle.outside_mem.specs.Fates.{remove_fails, remove_happens}
use Rattle.outside_mem.proofs.Fates.{cause_of, changed_if, happens_if, idle_hit, none_left}
use Rattle.outside_mem.proofs.Stored.{held-without}
use Rattle.outside_mem.proofs.store.MemObjectsObjects.remove.Goals as goal

pub returns-clause-removes : goal.returns-clause-removes
returns-clause-removes c =
    let store = c.args.self.now in
    happens_if (put_at c.args.key.now None) store.objects _ _ c.try_remove.result (remove_happens store) c.try_remove.ensures.objects
    (λ k. held-without c.args.key.now k store.objects)
    (λ h. c.try_remove.ensures.answer ∙ idle_hit store.calls.removes (is_last store.changes) h)

pub returns-clause-cause : goal.returns-clause-cause
returns-clause-cause c = cause_of _ _ (remove_fails c.args.self.now) c.try_remove.result c.try_remove.ensures.answer c.try_remove.ensures.faults c.try_remove.ensures.later

pub returns-clause-changes : goal.returns-clause-changes
returns-clause-changes c =
    let store = c.args.self.now in
    changed_if store.objects _ _ _ _ (remove_happens store) _ c.try_remove.ensures.objects c.try_remove.ensures.changed (none_left c.args.key.now store.objects)
