use Rattle.std.proofs.Common.{◌≡◌, refl, sym, ap, ◌∙◌, subst}
use Rattle.std.specs.Prelude.{Err, pred}
use Rattle.fs_model.specs.declared.event.Event.{Event}
use Rattle.fs_model.specs.declared.reply.Stored as stored
use Rattle.journal_entry.specs.declared.entry.Entry.{Entry}
use Rattle.master_node.specs.Mastering.{entered, standing_of}
use Rattle.cluster_core.specs.Crashes.{Leads, done_entry}
use Rattle.cluster_core.specs.Writers.{StepsFrom}
use Rattle.cluster_core.proofs.Crashed.{leads_after, stays_standing}
use Rattle.cluster_core.proofs.Entries.{IsFullFor}
use Rattle.cluster_core.proofs.FinishGo.{unready_media, unready_steady, unready_steps}
use Rattle.cluster_core.proofs.DoneSteps.{ends_refused, from_ready}
use Rattle.cluster_core.proofs.finishing.Core+D+O+O+Reader+O+Writer.finish_for.Goals as goal

pub returns-in-Some-clause-steps : goal.returns-in-Some-clause-steps
returns-in-Some-clause-steps g c = subst (λ q. StepsFrom g.D.Disk g.O.Objects g.O.Reader.ObjectRead g.O.Writer.ObjectWrite c.args.self.now c.put_writer.new.self c.args.actor c.args.label c.args.writer (Event.Finish c.args.label) q) (sym c.put_writer.ensures.reply) (ends_refused g.O.Objects g.O.Reader.ObjectRead g.O.Writer.ObjectWrite c.args.self.now c.put_writer.new.self c.args.label c.args.actor c.requires.actor c.args.writer c.args.writer c.put_writer.ensures.rest c.put_writer.ensures.put c.put_writer.ensures.workers refl c.in-Some.refusal c.in-Some.ensures.refused)

pub returns-in-Ok-clause-steps : goal.returns-in-Ok-clause-steps
returns-in-Ok-clause-steps g c =
    let made = c.in-Ok.ensures in
    from_ready g.O.Objects g.O.Reader.ObjectRead g.O.Writer.ObjectWrite c.args.self.now c.prepare_done.new.self c.finish_ready.new.self c.args.label c.args.actor c.args.writer made.stays made.block made.workers made.hands made.stores c.finish_ready.result c.finish_ready.ensures.steps

pub returns-clause-steps : goal.returns-clause-steps
returns-clause-steps g c = unready_steps g.O.Objects g.O.Reader.ObjectRead g.O.Writer.ObjectWrite c.args.self.now c.prepare_done.new.self c.put_writer-in-Err.new.self c.args.label c.args.actor c.requires.actor c.args.writer c.in-Err.ensures.stays c.in-Err.ensures.block c.in-Err.ensures.workers c.in-Err.ensures.hands c.in-Err.ensures.stores (sym c.in_default.ensures.refused)
    c.in-Err.fault c.put_writer-in-Err.result (c.put_writer-in-Err.ensures.reply ∙ c.fault_reply.ensures) (λ e. c.in-Err.ensures.failed (ap Err e)) (λ e. subst (λ k. IsFullFor k c.args.self.now.master) (c.finish-entry.ensures.entry ∙ ap (λ n. Entry.Done c.args.writer.file n stored.Stored.No 0) c.len.ensures) (c.in-Err.ensures.within (ap Err e)))
    c.put_writer-in-Err.ensures.rest c.put_writer-in-Err.ensures.workers c.put_writer-in-Err.ensures.put

pub returns-clause-media : goal.returns-clause-media
returns-clause-media g c = unready_media g.O.Objects g.O.Reader.ObjectRead g.O.Writer.ObjectWrite c.args.self.now c.prepare_done.new.self c.put_writer-in-Err.new.self c.args.label c.args.actor c.requires.actor c.args.writer c.in-Err.ensures.stays c.in-Err.ensures.block c.in-Err.ensures.workers c.in-Err.ensures.hands c.in-Err.ensures.stores (sym c.in_default.ensures.refused)
    c.in-Err.fault c.put_writer-in-Err.result (c.put_writer-in-Err.ensures.reply ∙ c.fault_reply.ensures) (λ e. c.in-Err.ensures.failed (ap Err e)) (λ e. subst (λ k. IsFullFor k c.args.self.now.master) (c.finish-entry.ensures.entry ∙ ap (λ n. Entry.Done c.args.writer.file n stored.Stored.No 0) c.len.ensures) (c.in-Err.ensures.within (ap Err e)))
    c.put_writer-in-Err.ensures.rest c.put_writer-in-Err.ensures.workers c.put_writer-in-Err.ensures.put

pub returns-clause-steady : goal.returns-clause-steady
returns-clause-steady g c = unready_steady g.O.Objects g.O.Reader.ObjectRead g.O.Writer.ObjectWrite c.args.self.now c.prepare_done.new.self c.put_writer-in-Err.new.self c.args.label c.args.actor c.requires.actor c.args.writer c.in-Err.ensures.stays c.in-Err.ensures.block c.in-Err.ensures.workers c.in-Err.ensures.hands c.in-Err.ensures.stores (sym c.in_default.ensures.refused)
    c.in-Err.fault c.put_writer-in-Err.result (c.put_writer-in-Err.ensures.reply ∙ c.fault_reply.ensures) (λ e. c.in-Err.ensures.failed (ap Err e)) (λ e. subst (λ k. IsFullFor k c.args.self.now.master) (c.finish-entry.ensures.entry ∙ ap (λ n. Entry.Done c.args.writer.file n stored.Stored.No 0) c.len.ensures) (c.in-Err.ensures.within (ap Err e)))
    c.put_writer-in-Err.ensures.rest c.put_writer-in-Err.ensures.workers c.put_writer-in-Err.ensures.put

pub returns-in-Ok-clause-leads : goal.returns-in-Ok-clause-leads
returns-in-Ok-clause-leads g c =
    let made = c.in-Ok.ensures in
    leads_after g.D.Disk (entered (done_entry c.args.writer) (standing_of c.args.self.now.master)) c.finish_ready.result c.args.self.now.master c.prepare_done.new.self.master c.finish_ready.new.self.master made.stays
    (subst (λ s. Leads g.D.Disk c.prepare_done.new.self.master c.finish_ready.new.self.master (entered (done_entry c.args.writer) s) c.finish_ready.result) (stays_standing g.D.Disk c.args.self.now.master c.prepare_done.new.self.master made.stays) c.finish_ready.ensures.leads)
