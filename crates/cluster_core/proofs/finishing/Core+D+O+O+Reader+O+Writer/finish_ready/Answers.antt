use Rattle.std.proofs.Common.{true, false, ◌≡◌, refl, sym, ap, ◌∙◌, subst}
use Rattle.std.specs.Prelude.{Err, pred}
use Rattle.fs_model.specs.declared.event.Event.{Event}
use Rattle.journal_entry.specs.declared.entry.Entry.{Entry}
use Rattle.journal_entry.specs.EntryText.{entry_text}
use Rattle.master_state.specs.Effect.{counts_in}
use Rattle.master_node.specs.Mastering.{entered, names_of, standing_of}
use Rattle.cluster_core.specs.Crashes.{done_entry}
use Rattle.cluster_core.specs.Entering.{Entered, HasStopped}
use Rattle.cluster_core.specs.Writers.{StepsFrom}
use Rattle.cluster_core.proofs.DoneSteps.{after_done, after_lost, after_short}
use Rattle.cluster_core.proofs.Entries.{IsFullFor}
use Rattle.cluster_core.proofs.FinishGo.{finish_up, set_broken, stops_leads, stops_media, stops_steps}
use Rattle.cluster_core.proofs.SteadyStay.{steady_added, steady_same, steady_still, writer_closed, writer_same}
use Rattle.cluster_core.proofs.finishing.Core+D+O+O+Reader+O+Writer.finish_ready.Goals as goal

pub returns-in-Ok-enter_ready-clause-steps : goal.returns-in-Ok-enter_ready-clause-steps
returns-in-Ok-enter_ready-clause-steps g c =
    let mid = c.commit_block.new.self in
    after_done g.O.Objects g.O.Reader.ObjectRead g.O.Writer.ObjectWrite c.args.self.now mid _ c.args.label c.args.actor c.requires.actor c.args.writer c.in-Ok.ensures.rest c.in-Ok.ensures.hands refl refl c.requires.passes c.in-Ok.ensures.done (λ none. (c.in-Ok.ensures.none none).1) refl
    (subst (λ k. Entered g.D.Disk k mid.master c.enter_ready.new.master) c.requires.entry c.in-Ok-enter_ready.ensures.done)
    (subst (λ k. counts_in k (names_of mid.master) ≡ true) c.requires.entry (subst (λ k. counts_in c.args.entry.now (names_of k) ≡ true) (sym c.in-Ok.ensures.rest.master) c.requires.counts))

pub returns-in-Err-clause-steps : goal.returns-in-Err-clause-steps
returns-in-Err-clause-steps g c = stops_steps g.O.Objects g.O.Reader.ObjectRead g.O.Writer.ObjectWrite c.args.self.now c.commit_block.new.self c.put_writer.new.self c.args.label c.args.actor c.requires.actor c.args.writer c.commit_block.new.writer (record c.commit_block.new.writer { broken = true }) c.enter_ready.new.master c.in-Ok.ensures.rest c.in-Ok.ensures.hands c.requires.passes
    c.in-Err.fault c.put_writer.result (c.put_writer.ensures.reply ∙ c.fault_reply.ensures) (λ e. c.in-Err.ensures.spared (ap Err e)) (λ e. subst (λ k. IsFullFor k c.commit_block.new.self.master) c.requires.entry (c.in-Err.ensures.full (ap Err e))) (λ e. subst (λ k. HasStopped g.D.Disk 4 (entered k (standing_of c.commit_block.new.self.master)) c.commit_block.new.self.master c.enter_ready.new.master) c.requires.entry (c.in-Err.ensures.stopped (ap Err e)))
    c.put_writer.ensures.rest.block c.put_writer.ensures.rest.master c.put_writer.ensures.rest.stores c.put_writer.ensures.workers c.put_writer.ensures.put (c.in-Ok.ensures.closed) refl
    (subst (λ k. counts_in k (names_of c.commit_block.new.self.master) ≡ true) c.requires.entry (subst (λ k. counts_in c.args.entry.now (names_of k) ≡ true) (sym c.in-Ok.ensures.rest.master) c.requires.counts))
    c.in-Ok.ensures.done (λ none. (c.in-Ok.ensures.none none).1)

pub returns-in-Err-clause-media : goal.returns-in-Err-clause-media
returns-in-Err-clause-media g c = stops_media g.O.Objects g.O.Reader.ObjectRead g.O.Writer.ObjectWrite c.args.self.now c.commit_block.new.self c.put_writer.new.self c.args.label c.args.actor c.requires.actor c.args.writer c.commit_block.new.writer (record c.commit_block.new.writer { broken = true }) c.enter_ready.new.master c.in-Ok.ensures.rest c.in-Ok.ensures.hands c.requires.passes
    c.in-Err.fault c.put_writer.result (c.put_writer.ensures.reply ∙ c.fault_reply.ensures) (λ e. c.in-Err.ensures.spared (ap Err e)) (λ e. subst (λ k. IsFullFor k c.commit_block.new.self.master) c.requires.entry (c.in-Err.ensures.full (ap Err e))) (λ e. subst (λ k. HasStopped g.D.Disk 4 (entered k (standing_of c.commit_block.new.self.master)) c.commit_block.new.self.master c.enter_ready.new.master) c.requires.entry (c.in-Err.ensures.stopped (ap Err e)))
    c.put_writer.ensures.rest.block c.put_writer.ensures.rest.master c.put_writer.ensures.rest.stores c.put_writer.ensures.workers c.put_writer.ensures.put (c.in-Ok.ensures.closed) refl
    c.in-Ok.ensures.media

pub returns-in-Err-clause-leads : goal.returns-in-Err-clause-leads
returns-in-Err-clause-leads g c = stops_leads g.O.Objects g.O.Reader.ObjectRead g.O.Writer.ObjectWrite c.args.self.now c.commit_block.new.self c.put_writer.new.self c.args.label c.args.actor c.requires.actor c.args.writer c.commit_block.new.writer (record c.commit_block.new.writer { broken = true }) c.enter_ready.new.master c.in-Ok.ensures.rest c.in-Ok.ensures.hands c.requires.passes
    c.in-Err.fault c.put_writer.result (c.put_writer.ensures.reply ∙ c.fault_reply.ensures) (λ e. c.in-Err.ensures.spared (ap Err e)) (λ e. subst (λ k. IsFullFor k c.commit_block.new.self.master) c.requires.entry (c.in-Err.ensures.full (ap Err e))) (λ e. subst (λ k. HasStopped g.D.Disk 4 (entered k (standing_of c.commit_block.new.self.master)) c.commit_block.new.self.master c.enter_ready.new.master) c.requires.entry (c.in-Err.ensures.stopped (ap Err e)))
    c.put_writer.ensures.rest.block c.put_writer.ensures.rest.master c.put_writer.ensures.rest.stores c.put_writer.ensures.workers c.put_writer.ensures.put (c.in-Ok.ensures.closed) refl
    (finish_up c.args.self.now.master c.args.self.now.workers.items c.args.writer c.requires.passes)

pub returns-in-Ok-enter_ready-clause-steady : goal.returns-in-Ok-enter_ready-clause-steady
returns-in-Ok-enter_ready-clause-steady g c = λ steady good. steady_same g.O.Objects g.O.Reader.ObjectRead g.O.Writer.ObjectWrite refl refl (steady_still g.O.Objects g.O.Reader.ObjectRead g.O.Writer.ObjectWrite c.in-Ok.ensures.media c.in-Ok.ensures.hands steady)

pub returns-in-Err-clause-steady : goal.returns-in-Err-clause-steady
returns-in-Err-clause-steady g c = λ steady good.
    let mid = c.commit_block.new.self in
    let y = record c.commit_block.new.writer { broken = true } in
    steady_added g.O.Objects g.O.Reader.ObjectRead g.O.Writer.ObjectWrite (pred c.args.actor) _ _ c.put_writer.ensures.rest c.put_writer.ensures.workers c.put_writer.ensures.put (writer_closed g.O.Reader.ObjectRead g.O.Writer.ObjectWrite true c.args.writer y (set_broken c.args.writer c.commit_block.new.writer c.in-Ok.ensures.closed) good)
    (steady_same g.O.Objects g.O.Reader.ObjectRead g.O.Writer.ObjectWrite refl refl (steady_still g.O.Objects g.O.Reader.ObjectRead g.O.Writer.ObjectWrite c.in-Ok.ensures.media c.in-Ok.ensures.hands steady))

pub returns-in-Err-Memory-clause-steps : goal.returns-in-Err-Memory-clause-steps
returns-in-Err-Memory-clause-steps g c = subst (λ q. StepsFrom g.D.Disk g.O.Objects g.O.Reader.ObjectRead g.O.Writer.ObjectWrite c.args.self.now c.put_writer-in-Err-Memory.new.self c.args.actor c.args.label c.args.writer (Event.Finish c.args.label) q) (sym c.put_writer-in-Err-Memory.ensures.reply) (after_short g.O.Objects g.O.Reader.ObjectRead g.O.Writer.ObjectWrite c.args.self.now c.commit_block.new.self c.put_writer-in-Err-Memory.new.self c.args.label c.args.actor c.requires.actor c.args.writer c.in-Err-Memory.ensures.rest c.in-Err-Memory.ensures.hands c.commit_block.new.writer c.put_writer-in-Err-Memory.ensures.rest c.put_writer-in-Err-Memory.ensures.workers c.put_writer-in-Err-Memory.ensures.put (c.in-Err-Memory.ensures.memory (ap Err c.in-Err-Memory.field-0-is)).0 (c.in-Err-Memory.ensures.memory (ap Err c.in-Err-Memory.field-0-is)).1)

pub returns-in-Err-Failed-clause-steps : goal.returns-in-Err-Failed-clause-steps
returns-in-Err-Failed-clause-steps g c = subst (λ q. StepsFrom g.D.Disk g.O.Objects g.O.Reader.ObjectRead g.O.Writer.ObjectWrite c.args.self.now c.put_writer-in-Err-Failed.new.self c.args.actor c.args.label c.args.writer (Event.Finish c.args.label) q) (sym c.put_writer-in-Err-Failed.ensures.reply) (after_lost g.O.Objects g.O.Reader.ObjectRead g.O.Writer.ObjectWrite c.args.self.now c.commit_block.new.self c.put_writer-in-Err-Failed.new.self c.args.label c.args.actor c.requires.actor c.args.writer c.in-Err-Failed.ensures.rest c.in-Err-Failed.ensures.hands c.commit_block.new.writer c.put_writer-in-Err-Failed.ensures.rest c.put_writer-in-Err-Failed.ensures.workers c.put_writer-in-Err-Failed.ensures.put c.requires.passes (λ e. let never : false ≡ true = (c.in-Err-Failed.ensures.none e).0 in absurd (cc)) (c.in-Err-Failed.ensures.lost (ap Err c.in-Err-Failed.field-0-is)) (c.in-Err-Failed.ensures.broken (ap Err c.in-Err-Failed.field-0-is)))

pub returns-in-Err-Memory-clause-steady : goal.returns-in-Err-Memory-clause-steady
returns-in-Err-Memory-clause-steady g c = λ steady good. steady_added g.O.Objects g.O.Reader.ObjectRead g.O.Writer.ObjectWrite (pred c.args.actor) _ _ c.put_writer-in-Err-Memory.ensures.rest c.put_writer-in-Err-Memory.ensures.workers c.put_writer-in-Err-Memory.ensures.put (writer_same g.O.Reader.ObjectRead g.O.Writer.ObjectWrite c.args.writer c.commit_block.new.writer (c.in-Err-Memory.ensures.memory (ap Err c.in-Err-Memory.field-0-is)).1 good) (steady_still g.O.Objects g.O.Reader.ObjectRead g.O.Writer.ObjectWrite c.in-Err-Memory.ensures.media c.in-Err-Memory.ensures.hands steady)

pub returns-in-Err-Failed-clause-steady : goal.returns-in-Err-Failed-clause-steady
returns-in-Err-Failed-clause-steady g c = λ steady good. steady_added g.O.Objects g.O.Reader.ObjectRead g.O.Writer.ObjectWrite (pred c.args.actor) _ _ c.put_writer-in-Err-Failed.ensures.rest c.put_writer-in-Err-Failed.ensures.workers c.put_writer-in-Err-Failed.ensures.put (writer_closed g.O.Reader.ObjectRead g.O.Writer.ObjectWrite true c.args.writer c.commit_block.new.writer (c.in-Err-Failed.ensures.broken (ap Err c.in-Err-Failed.field-0-is)) good) (steady_still g.O.Objects g.O.Reader.ObjectRead g.O.Writer.ObjectWrite c.in-Err-Failed.ensures.media c.in-Err-Failed.ensures.hands steady)
