use Rattle.std.proofs.Common.{Some, inl, inr, ap, ◌∙◌}
use Rattle.outside.specs.Contents.{put_at}
use Rattle.outside.proofs.Deciding.{true_or_false}
use Rattle.outside_mem.specs.Fates.{finish_fails, finish_happens, finish_misses, is_full}
use Rattle.outside_mem.specs.Stored.{held}
use Rattle.outside_mem.specs.declared.writers.MemObject.{MemObject}
use Rattle.outside_mem.proofs.Fates.{counted_rose, counted_same, failed_by, happens_if, idle, kept_if, missed_idle, or_second}
use Rattle.outside_mem.proofs.Stored.{held-put, own_crossed, own-crossed}
use Rattle.outside_mem.proofs.store.MemObjectsObjects.finish.Goals as goal

pub returns-clause-bytes : goal.returns-clause-bytes
returns-clause-bytes c = λ bytes e.
    let store = c.args.self.now in
    let object : MemObject = record { key = c.args.key; bytes = c.args.writer.bytes } in
    happens_if (put_at c.args.key (Some bytes)) store.objects _ _ c.try_finish.result (finish_happens store c.args.key) c.try_finish.ensures.objects
    (λ k. held-put object k store.objects ∙ ap (λ held_bytes. put_at c.args.key held_bytes (held store.objects) k) e)
    (λ h. c.try_finish.ensures.answer ∙ idle store.calls.finishes (is_full store) (finish_misses store c.args.key) h)

pub returns-clause-failed : goal.returns-clause-failed
returns-clause-failed c =
    let store = c.args.self.now in
    failed_by (finish_fails store) (finish_misses store c.args.key) c.try_finish.result _ c.try_finish.ensures.answer
    (λ h. inl (counted_rose _ _ _ c.try_finish.ensures.faults h))
    (λ h. inr (own_crossed c.args.key store.objects h))

pub returns-clause-missed : goal.returns-clause-missed
returns-clause-missed c = λ crossed.
    let store = c.args.self.now in
    let missed = own-crossed c.args.key store.objects crossed in
    (c.try_finish.ensures.answer ∙ or_second (finish_fails store) _ missed, counted_rose _ _ _ c.try_finish.ensures.misses missed, kept_if store.objects _ _ (finish_happens store c.args.key) c.try_finish.ensures.objects (missed_idle _ _ missed))

pub returns-clause-met : goal.returns-clause-met
returns-clause-met c = λ apart.
    let store = c.args.self.now in
    elim (true_or_false (finish_misses store c.args.key)) [ inl h ↦ absurd (apart (own_crossed c.args.key store.objects h)) | inr h ↦ counted_same _ _ _ c.try_finish.ensures.misses h ]
