use Rattle.std.proofs.Common.{true, false, ◌≡◌, refl, sym, ap, ◌∙◌, subst}
use Rattle.cluster_core.proofs.RoomSteps.{ends_refused, ends_same}
use Rattle.cluster_core.proofs.RoomAfter.{after_short, after_lost, after_opened, after_full, after_closed, after_failed}
use Rattle.cluster_core.specs.Writers.{StepsFrom}
use Rattle.std.specs.Prelude.{Ok, Err, pred}
use Rattle.fs_model.specs.declared.event.Event.{Event}
use Rattle.cluster_core.proofs.Caused.{room_caused}
use Rattle.cluster_core.proofs.MediaStay.{media_kept, media_then, media_opened, media_full, media_short, media_failed}
use Rattle.cluster_core.proofs.SteadyStay.{opened_steady, same_steady, steady_added, steady_still, writer_closed, writer_same}
use Rattle.cluster_core.proofs.rooming.Core+D+O+O+Reader+O+Writer.room_for.Goals as goal

pub returns-in-Some-clause-steps : goal.returns-in-Some-clause-steps
returns-in-Some-clause-steps g c = subst (λ q. StepsFrom g.D.Disk g.O.Objects g.O.Reader.ObjectRead g.O.Writer.ObjectWrite c.args.self.now c.put_writer.new.self c.args.actor c.args.label c.args.writer (Event.Room c.args.label) q) (sym c.put_writer.ensures.reply) (ends_refused g.O.Objects g.O.Reader.ObjectRead g.O.Writer.ObjectWrite c.args.self.now c.put_writer.new.self c.args.label c.args.actor c.requires.actor c.args.writer c.args.writer c.put_writer.ensures.rest c.put_writer.ensures.put c.in-Some.refusal c.in-Some.ensures.refused c.put_writer.ensures.workers refl)

pub returns-then-not-needs_room-clause-steps : goal.returns-then-not-needs_room-clause-steps
returns-then-not-needs_room-clause-steps g c = subst (λ q. StepsFrom g.D.Disk g.O.Objects g.O.Reader.ObjectRead g.O.Writer.ObjectWrite c.args.self.now c.put_writer-then-not-needs_room.new.self c.args.actor c.args.label c.args.writer (Event.Room c.args.label) q) (sym c.put_writer-then-not-needs_room.ensures.reply) (ends_same g.O.Objects g.O.Reader.ObjectRead g.O.Writer.ObjectWrite c.args.self.now c.put_writer-then-not-needs_room.new.self c.args.label c.args.actor c.requires.actor c.args.writer c.args.writer c.put_writer-then-not-needs_room.ensures.rest c.put_writer-then-not-needs_room.ensures.put c.in_default.ensures.refused (sym c.needs_room.ensures ∙ c.if-not-needs_room.true) c.put_writer-then-not-needs_room.ensures.workers refl)

pub returns-in-Err-Memory-clause-steps : goal.returns-in-Err-Memory-clause-steps
returns-in-Err-Memory-clause-steps g c = subst (λ q. StepsFrom g.D.Disk g.O.Objects g.O.Reader.ObjectRead g.O.Writer.ObjectWrite c.args.self.now c.put_writer-in-Err-Memory.new.self c.args.actor c.args.label c.args.writer (Event.Room c.args.label) q) (sym c.put_writer-in-Err-Memory.ensures.reply) (after_short g.O.Objects g.O.Reader.ObjectRead g.O.Writer.ObjectWrite c.args.self.now c.commit_block.new.self c.put_writer-in-Err-Memory.new.self c.args.label c.args.actor c.requires.actor c.args.writer c.commit_block.new.writer c.in-Err-Memory.ensures.rest c.in-Err-Memory.ensures.hands c.put_writer-in-Err-Memory.ensures.rest c.put_writer-in-Err-Memory.ensures.workers c.put_writer-in-Err-Memory.ensures.put (c.in-Err-Memory.ensures.memory (ap Err c.in-Err-Memory.field-0-is)).0 (c.in-Err-Memory.ensures.memory (ap Err c.in-Err-Memory.field-0-is)).1)

pub returns-in-Err-Failed-clause-steps : goal.returns-in-Err-Failed-clause-steps
returns-in-Err-Failed-clause-steps g c = subst (λ q. StepsFrom g.D.Disk g.O.Objects g.O.Reader.ObjectRead g.O.Writer.ObjectWrite c.args.self.now c.put_writer-in-Err-Failed.new.self c.args.actor c.args.label c.args.writer (Event.Room c.args.label) q) (sym c.put_writer-in-Err-Failed.ensures.reply) (after_lost g.O.Objects g.O.Reader.ObjectRead g.O.Writer.ObjectWrite c.args.self.now c.commit_block.new.self c.put_writer-in-Err-Failed.new.self c.args.label c.args.actor c.requires.actor c.args.writer c.commit_block.new.writer c.in-Err-Failed.ensures.rest c.in-Err-Failed.ensures.hands c.put_writer-in-Err-Failed.ensures.rest c.put_writer-in-Err-Failed.ensures.workers c.put_writer-in-Err-Failed.ensures.put c.in_default.ensures.refused (sym c.needs_room.ensures ∙ c.if-not-needs_room.false) (λ e. let never : false ≡ true = (c.in-Err-Failed.ensures.none e).0 in absurd (cc)) (c.in-Err-Failed.ensures.lost (ap Err c.in-Err-Failed.field-0-is)) (c.in-Err-Failed.ensures.broken (ap Err c.in-Err-Failed.field-0-is)))

pub returns-in-Ok-true-clause-steps : goal.returns-in-Ok-true-clause-steps
returns-in-Ok-true-clause-steps g c = subst (λ q. StepsFrom g.D.Disk g.O.Objects g.O.Reader.ObjectRead g.O.Writer.ObjectWrite c.args.self.now c.put_writer-in-Ok-true.new.self c.args.actor c.args.label c.args.writer (Event.Room c.args.label) q) (sym c.put_writer-in-Ok-true.ensures.reply) (after_opened g.O.Objects g.O.Reader.ObjectRead g.O.Writer.ObjectWrite c.args.self.now c.commit_block.new.self c.open_block.new.self c.put_writer-in-Ok-true.new.self c.args.label c.args.actor c.requires.actor c.args.writer c.open_block.new.writer c.in-Ok.ensures.rest c.in-Ok.ensures.hands c.in-Ok-true.ensures.rest c.in-Ok-true.ensures.hands c.put_writer-in-Ok-true.ensures.rest c.put_writer-in-Ok-true.ensures.workers c.put_writer-in-Ok-true.ensures.put c.in_default.ensures.refused (sym c.needs_room.ensures ∙ c.if-not-needs_room.false) c.in-Ok.ensures.done (λ e. (c.in-Ok.ensures.none e).1) c.commit_block.new.writer c.in-Ok.ensures.closed (c.in-Ok-true.ensures.space (ap Ok c.in-Ok-true.field-0-test)) (c.in-Ok-true.ensures.opened (ap Ok c.in-Ok-true.field-0-test)) (c.in-Ok-true.ensures.tells (ap Ok c.in-Ok-true.field-0-test)) (c.in-Ok-true.ensures.has (ap Ok c.in-Ok-true.field-0-test)))

pub returns-in-Ok-false-clause-steps : goal.returns-in-Ok-false-clause-steps
returns-in-Ok-false-clause-steps g c = subst (λ q. StepsFrom g.D.Disk g.O.Objects g.O.Reader.ObjectRead g.O.Writer.ObjectWrite c.args.self.now c.put_writer-in-Ok-false.new.self c.args.actor c.args.label c.args.writer (Event.Room c.args.label) q) (sym c.put_writer-in-Ok-false.ensures.reply) (after_full g.O.Objects g.O.Reader.ObjectRead g.O.Writer.ObjectWrite c.args.self.now c.commit_block.new.self c.open_block.new.self c.put_writer-in-Ok-false.new.self c.args.label c.args.actor c.requires.actor c.args.writer c.open_block.new.writer c.in-Ok.ensures.rest c.in-Ok.ensures.hands c.in-Ok-false.ensures.rest c.in-Ok-false.ensures.hands c.put_writer-in-Ok-false.ensures.rest c.put_writer-in-Ok-false.ensures.workers c.put_writer-in-Ok-false.ensures.put c.in_default.ensures.refused (sym c.needs_room.ensures ∙ c.if-not-needs_room.false) c.in-Ok.ensures.done (λ e. (c.in-Ok.ensures.none e).1) c.commit_block.new.writer c.in-Ok.ensures.closed (c.in-Ok-false.ensures.full (ap Ok c.in-Ok-false.field-0-test)))

pub returns-in-Err-Memory-open_block-clause-steps : goal.returns-in-Err-Memory-open_block-clause-steps
returns-in-Err-Memory-open_block-clause-steps g c = subst (λ q. StepsFrom g.D.Disk g.O.Objects g.O.Reader.ObjectRead g.O.Writer.ObjectWrite c.args.self.now c.put_writer-in-Err-Memory-open_block.new.self c.args.actor c.args.label c.args.writer (Event.Room c.args.label) q) (sym c.put_writer-in-Err-Memory-open_block.ensures.reply) (after_closed g.O.Objects g.O.Reader.ObjectRead g.O.Writer.ObjectWrite c.args.self.now c.commit_block.new.self c.open_block.new.self c.put_writer-in-Err-Memory-open_block.new.self c.args.label c.args.actor c.requires.actor c.args.writer c.open_block.new.writer c.in-Ok.ensures.rest c.in-Ok.ensures.hands c.in-Err-Memory-open_block.ensures.rest c.in-Err-Memory-open_block.ensures.hands c.put_writer-in-Err-Memory-open_block.ensures.rest c.put_writer-in-Err-Memory-open_block.ensures.workers c.put_writer-in-Err-Memory-open_block.ensures.put c.in_default.ensures.refused (sym c.needs_room.ensures ∙ c.if-not-needs_room.false) c.in-Ok.ensures.done (λ e. (c.in-Ok.ensures.none e).1) c.commit_block.new.writer c.in-Ok.ensures.closed (c.in-Err-Memory-open_block.ensures.memory (ap Err c.in-Err-Memory-open_block.field-0-is)) c.in-Err-Memory-open_block.ensures.err)

pub returns-in-Err-Failed-open_block-clause-steps : goal.returns-in-Err-Failed-open_block-clause-steps
returns-in-Err-Failed-open_block-clause-steps g c = subst (λ q. StepsFrom g.D.Disk g.O.Objects g.O.Reader.ObjectRead g.O.Writer.ObjectWrite c.args.self.now c.put_writer-in-Err-Failed-open_block.new.self c.args.actor c.args.label c.args.writer (Event.Room c.args.label) q) (sym c.put_writer-in-Err-Failed-open_block.ensures.reply) (after_failed g.O.Objects g.O.Reader.ObjectRead g.O.Writer.ObjectWrite c.args.self.now c.commit_block.new.self c.open_block.new.self c.put_writer-in-Err-Failed-open_block.new.self c.args.label c.args.actor c.requires.actor c.args.writer (record c.open_block.new.writer { broken = true }) c.in-Ok.ensures.rest c.in-Ok.ensures.hands c.in-Err-Failed-open_block.ensures.rest c.in-Err-Failed-open_block.ensures.hands c.put_writer-in-Err-Failed-open_block.ensures.rest c.put_writer-in-Err-Failed-open_block.ensures.workers c.put_writer-in-Err-Failed-open_block.ensures.put c.in_default.ensures.refused (sym c.needs_room.ensures ∙ c.if-not-needs_room.false) c.in-Ok.ensures.done (λ e. (c.in-Ok.ensures.none e).1) c.commit_block.new.writer c.in-Ok.ensures.closed (c.in-Err-Failed-open_block.ensures.failed (ap Err c.in-Err-Failed-open_block.field-0-is)) c.open_block.new.writer c.in-Err-Failed-open_block.ensures.err refl)

pub returns-in-Some-clause-media : goal.returns-in-Some-clause-media
returns-in-Some-clause-media g c = media_kept g.O.Objects c.put_writer.ensures.rest c.put_writer.ensures.workers

pub returns-then-not-needs_room-clause-media : goal.returns-then-not-needs_room-clause-media
returns-then-not-needs_room-clause-media g c = media_kept g.O.Objects c.put_writer-then-not-needs_room.ensures.rest c.put_writer-then-not-needs_room.ensures.workers

pub returns-in-Err-Memory-clause-media : goal.returns-in-Err-Memory-clause-media
returns-in-Err-Memory-clause-media g c = media_then g.O.Objects c.in-Err-Memory.ensures.media (media_kept g.O.Objects c.put_writer-in-Err-Memory.ensures.rest c.put_writer-in-Err-Memory.ensures.workers)

pub returns-in-Err-Failed-clause-media : goal.returns-in-Err-Failed-clause-media
returns-in-Err-Failed-clause-media g c = media_then g.O.Objects c.in-Err-Failed.ensures.media (media_kept g.O.Objects c.put_writer-in-Err-Failed.ensures.rest c.put_writer-in-Err-Failed.ensures.workers)

pub returns-in-Ok-true-clause-media : goal.returns-in-Ok-true-clause-media
returns-in-Ok-true-clause-media g c = media_then g.O.Objects c.in-Ok.ensures.media (media_then g.O.Objects (media_opened g.O.Objects (pred c.commit_block.new.writer.worker) c.commit_block.new.writer.bytes.bs c.open_block.new.writer.room c.in-Ok-true.ensures.rest (c.in-Ok-true.ensures.space (ap Ok c.in-Ok-true.field-0-test))) (media_kept g.O.Objects c.put_writer-in-Ok-true.ensures.rest c.put_writer-in-Ok-true.ensures.workers))

pub returns-in-Ok-false-clause-media : goal.returns-in-Ok-false-clause-media
returns-in-Ok-false-clause-media g c = media_then g.O.Objects c.in-Ok.ensures.media (media_then g.O.Objects (media_full g.O.Objects c.commit_block.new.writer.bytes.bs c.in-Ok-false.ensures.rest (c.in-Ok-false.ensures.full (ap Ok c.in-Ok-false.field-0-test))) (media_kept g.O.Objects c.put_writer-in-Ok-false.ensures.rest c.put_writer-in-Ok-false.ensures.workers))

pub returns-in-Err-Memory-open_block-clause-media : goal.returns-in-Err-Memory-open_block-clause-media
returns-in-Err-Memory-open_block-clause-media g c = media_then g.O.Objects c.in-Ok.ensures.media (media_then g.O.Objects (media_short g.O.Objects (pred c.commit_block.new.writer.worker) c.commit_block.new.writer.bytes.bs c.in-Err-Memory-open_block.ensures.rest (c.in-Err-Memory-open_block.ensures.memory (ap Err c.in-Err-Memory-open_block.field-0-is))) (media_kept g.O.Objects c.put_writer-in-Err-Memory-open_block.ensures.rest c.put_writer-in-Err-Memory-open_block.ensures.workers))

pub returns-in-Err-Failed-open_block-clause-media : goal.returns-in-Err-Failed-open_block-clause-media
returns-in-Err-Failed-open_block-clause-media g c = media_then g.O.Objects c.in-Ok.ensures.media (media_then g.O.Objects (media_failed g.O.Objects c.commit_block.new.writer.bytes.bs c.in-Err-Failed-open_block.ensures.rest (c.in-Err-Failed-open_block.ensures.failed (ap Err c.in-Err-Failed-open_block.field-0-is))) (media_kept g.O.Objects c.put_writer-in-Err-Failed-open_block.ensures.rest c.put_writer-in-Err-Failed-open_block.ensures.workers))

pub returns-in-Err-Failed-open_block-clause-cause : goal.returns-in-Err-Failed-open_block-clause-cause
returns-in-Err-Failed-open_block-clause-cause g c = room_caused g.O.Objects c.args.self.now c.commit_block.new.self c.open_block.new.self c.put_writer-in-Err-Failed-open_block.new.self c.args.writer c.commit_block.new.writer c.in_default.ensures.some c.in-Ok.ensures.closed c.in-Ok.ensures.media c.commit_block.new.writer.bytes.bs (c.in-Err-Failed-open_block.ensures.failed (ap Err c.in-Err-Failed-open_block.field-0-is)) c.put_writer-in-Err-Failed-open_block.ensures.workers c.put_writer-in-Err-Failed-open_block.result c.put_writer-in-Err-Failed-open_block.ensures.reply

pub returns-in-Some-clause-steady : goal.returns-in-Some-clause-steady
returns-in-Some-clause-steady g c = λ steady good. steady_added g.O.Objects g.O.Reader.ObjectRead g.O.Writer.ObjectWrite (pred c.args.actor) _ _ c.put_writer.ensures.rest c.put_writer.ensures.workers c.put_writer.ensures.put good steady

pub returns-then-not-needs_room-clause-steady : goal.returns-then-not-needs_room-clause-steady
returns-then-not-needs_room-clause-steady g c = λ steady good. steady_added g.O.Objects g.O.Reader.ObjectRead g.O.Writer.ObjectWrite (pred c.args.actor) _ _ c.put_writer-then-not-needs_room.ensures.rest c.put_writer-then-not-needs_room.ensures.workers c.put_writer-then-not-needs_room.ensures.put good steady

pub returns-in-Err-Memory-clause-steady : goal.returns-in-Err-Memory-clause-steady
returns-in-Err-Memory-clause-steady g c = λ steady good. steady_added g.O.Objects g.O.Reader.ObjectRead g.O.Writer.ObjectWrite (pred c.args.actor) _ _ c.put_writer-in-Err-Memory.ensures.rest c.put_writer-in-Err-Memory.ensures.workers c.put_writer-in-Err-Memory.ensures.put (writer_same g.O.Reader.ObjectRead g.O.Writer.ObjectWrite c.args.writer c.commit_block.new.writer (c.in-Err-Memory.ensures.memory (ap Err c.in-Err-Memory.field-0-is)).1 good) (steady_still g.O.Objects g.O.Reader.ObjectRead g.O.Writer.ObjectWrite c.in-Err-Memory.ensures.media c.in-Err-Memory.ensures.hands steady)

pub returns-in-Err-Failed-clause-steady : goal.returns-in-Err-Failed-clause-steady
returns-in-Err-Failed-clause-steady g c = λ steady good. steady_added g.O.Objects g.O.Reader.ObjectRead g.O.Writer.ObjectWrite (pred c.args.actor) _ _ c.put_writer-in-Err-Failed.ensures.rest c.put_writer-in-Err-Failed.ensures.workers c.put_writer-in-Err-Failed.ensures.put (writer_closed g.O.Reader.ObjectRead g.O.Writer.ObjectWrite true c.args.writer c.commit_block.new.writer (c.in-Err-Failed.ensures.broken (ap Err c.in-Err-Failed.field-0-is)) good) (steady_still g.O.Objects g.O.Reader.ObjectRead g.O.Writer.ObjectWrite c.in-Err-Failed.ensures.media c.in-Err-Failed.ensures.hands steady)

pub returns-in-Ok-true-clause-steady : goal.returns-in-Ok-true-clause-steady
returns-in-Ok-true-clause-steady g c = λ steady good.
    let mid = (steady_still g.O.Objects g.O.Reader.ObjectRead g.O.Writer.ObjectWrite c.in-Ok.ensures.media c.in-Ok.ensures.hands steady) in
    let now = opened_steady g.O.Reader.ObjectRead g.O.Writer.ObjectWrite g.O.Objects c.commit_block.new.self.workers.items (pred c.commit_block.new.writer.worker) c.commit_block.new.writer.bytes.bs c.commit_block.new.writer c.open_block.new.writer (c.in-Ok-true.ensures.opened (ap Ok c.in-Ok-true.field-0-test)) (c.in-Ok-true.ensures.writes (ap Ok c.in-Ok-true.field-0-test)) mid.tiers (writer_closed g.O.Reader.ObjectRead g.O.Writer.ObjectWrite false c.args.writer c.commit_block.new.writer c.in-Ok.ensures.closed good) in
    steady_added g.O.Objects g.O.Reader.ObjectRead g.O.Writer.ObjectWrite (pred c.args.actor) _ _ c.put_writer-in-Ok-true.ensures.rest c.put_writer-in-Ok-true.ensures.workers c.put_writer-in-Ok-true.ensures.put now (steady_still g.O.Objects g.O.Reader.ObjectRead g.O.Writer.ObjectWrite (media_opened g.O.Objects (pred c.commit_block.new.writer.worker) c.commit_block.new.writer.bytes.bs c.open_block.new.writer.room c.in-Ok-true.ensures.rest (c.in-Ok-true.ensures.space (ap Ok c.in-Ok-true.field-0-test))) c.in-Ok-true.ensures.hands (steady_still g.O.Objects g.O.Reader.ObjectRead g.O.Writer.ObjectWrite c.in-Ok.ensures.media c.in-Ok.ensures.hands steady))

pub returns-in-Ok-false-clause-steady : goal.returns-in-Ok-false-clause-steady
returns-in-Ok-false-clause-steady g c = λ steady good. steady_added g.O.Objects g.O.Reader.ObjectRead g.O.Writer.ObjectWrite (pred c.args.actor) _ _ c.put_writer-in-Ok-false.ensures.rest c.put_writer-in-Ok-false.ensures.workers c.put_writer-in-Ok-false.ensures.put (same_steady g.O.Reader.ObjectRead g.O.Writer.ObjectWrite c.commit_block.new.writer c.open_block.new.writer (c.in-Ok-false.ensures.none (ap Ok c.in-Ok-false.field-0-test)) (writer_closed g.O.Reader.ObjectRead g.O.Writer.ObjectWrite false c.args.writer c.commit_block.new.writer c.in-Ok.ensures.closed good)) (steady_still g.O.Objects g.O.Reader.ObjectRead g.O.Writer.ObjectWrite (media_full g.O.Objects c.commit_block.new.writer.bytes.bs c.in-Ok-false.ensures.rest (c.in-Ok-false.ensures.full (ap Ok c.in-Ok-false.field-0-test))) c.in-Ok-false.ensures.hands (steady_still g.O.Objects g.O.Reader.ObjectRead g.O.Writer.ObjectWrite c.in-Ok.ensures.media c.in-Ok.ensures.hands steady))

pub returns-in-Err-Memory-open_block-clause-steady : goal.returns-in-Err-Memory-open_block-clause-steady
returns-in-Err-Memory-open_block-clause-steady g c = λ steady good. steady_added g.O.Objects g.O.Reader.ObjectRead g.O.Writer.ObjectWrite (pred c.args.actor) _ _ c.put_writer-in-Err-Memory-open_block.ensures.rest c.put_writer-in-Err-Memory-open_block.ensures.workers c.put_writer-in-Err-Memory-open_block.ensures.put (same_steady g.O.Reader.ObjectRead g.O.Writer.ObjectWrite c.commit_block.new.writer c.open_block.new.writer c.in-Err-Memory-open_block.ensures.err (writer_closed g.O.Reader.ObjectRead g.O.Writer.ObjectWrite false c.args.writer c.commit_block.new.writer c.in-Ok.ensures.closed good)) (steady_still g.O.Objects g.O.Reader.ObjectRead g.O.Writer.ObjectWrite (media_short g.O.Objects (pred c.commit_block.new.writer.worker) c.commit_block.new.writer.bytes.bs c.in-Err-Memory-open_block.ensures.rest (c.in-Err-Memory-open_block.ensures.memory (ap Err c.in-Err-Memory-open_block.field-0-is))) c.in-Err-Memory-open_block.ensures.hands (steady_still g.O.Objects g.O.Reader.ObjectRead g.O.Writer.ObjectWrite c.in-Ok.ensures.media c.in-Ok.ensures.hands steady))

pub returns-in-Err-Failed-open_block-clause-steady : goal.returns-in-Err-Failed-open_block-clause-steady
returns-in-Err-Failed-open_block-clause-steady g c = λ steady good. steady_added g.O.Objects g.O.Reader.ObjectRead g.O.Writer.ObjectWrite (pred c.args.actor) _ _ c.put_writer-in-Err-Failed-open_block.ensures.rest c.put_writer-in-Err-Failed-open_block.ensures.workers c.put_writer-in-Err-Failed-open_block.ensures.put (same_steady g.O.Reader.ObjectRead g.O.Writer.ObjectWrite c.commit_block.new.writer c.open_block.new.writer c.in-Err-Failed-open_block.ensures.err (writer_closed g.O.Reader.ObjectRead g.O.Writer.ObjectWrite false c.args.writer c.commit_block.new.writer c.in-Ok.ensures.closed good)) (steady_still g.O.Objects g.O.Reader.ObjectRead g.O.Writer.ObjectWrite (media_failed g.O.Objects c.commit_block.new.writer.bytes.bs c.in-Err-Failed-open_block.ensures.rest (c.in-Err-Failed-open_block.ensures.failed (ap Err c.in-Err-Failed-open_block.field-0-is))) c.in-Err-Failed-open_block.ensures.hands (steady_still g.O.Objects g.O.Reader.ObjectRead g.O.Writer.ObjectWrite c.in-Ok.ensures.media c.in-Ok.ensures.hands steady))
