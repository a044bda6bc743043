use Rattle.std.proofs.Common.{refl, sym, subst}
use Rattle.std.specs.Prelude.{pred, Err, Ok}
use Rattle.fs_model.specs.declared.event.Event.{Event}
use Rattle.fs_model.specs.declared.event.WriteType.{WriteType}
use Rattle.journal_entry.specs.declared.entry.Entry.{Entry}
use Rattle.master_node.specs.Mastering.{entered, standing_of}
use Rattle.cluster_core.specs.Causes.{IsCaused, TierCounted}
use Rattle.cluster_core.specs.Crashes.{Leads}
use Rattle.cluster_core.specs.Goes.{Steps}
use Rattle.cluster_core.specs.Openings.{here}
use Rattle.cluster_core.proofs.Caused.{caused_from, create_calm, refused_caused}
use Rattle.cluster_core.proofs.CreateGo.{refused_by, create_steps}
use Rattle.cluster_core.proofs.Entries.{create_room, create_up, enters_areas, enters_caused, enters_leads}
use Rattle.cluster_core.proofs.MediaStay.{media_same}
use Rattle.cluster_core.proofs.SteadyStay.{hands_added, hands_kept, steady_by, steady_same}
use Rattle.cluster_core.proofs.creating.Core+D+O+O+Reader+O+Writer.create.Goals as goal

pub returns-in-Some-clause-steps : goal.returns-in-Some-clause-steps
returns-in-Some-clause-steps g c = refused_by g.O.Objects g.O.Reader.ObjectRead g.O.Writer.ObjectWrite c.args.self.now c.args.actor c.requires.actor c.args.label.now c.args.path.now c.args.worker c.in-Some.refusal c.in-Some.ensures

pub returns-in-Ok-clause-steps : goal.returns-in-Ok-clause-steps
returns-in-Ok-clause-steps g c =
    let made = c.in-Ok.ensures in
    create_steps g.O.Objects g.O.Reader.ObjectRead g.O.Writer.ObjectWrite c.args.self.now c.args.actor c.requires.actor c.args.label.now c.args.path.now c.args.worker c.make_writer.new.self made.block made.workers c.requires.some c.in_default.ensures (Ok c.in-Ok.field-0) (record { done = made.done; stopped = made.stopped; short = made.short; full = made.full }) made.counts made.counted made.hands made.same_hands

pub returns-in-Err-clause-steps : goal.returns-in-Err-clause-steps
returns-in-Err-clause-steps g c =
    let made = c.in-Err.ensures in
    subst (Steps g.D.Disk g.O.Objects g.O.Reader.ObjectRead g.O.Writer.ObjectWrite c.args.self.now c.make_writer.new.self c.args.actor (Event.Create c.args.label.now c.args.path.now WriteType.MustCache c.args.worker)) (sym c.fault_reply.ensures)
    (create_steps g.O.Objects g.O.Reader.ObjectRead g.O.Writer.ObjectWrite c.args.self.now c.args.actor c.requires.actor c.args.label.now c.args.path.now c.args.worker c.make_writer.new.self made.block made.workers c.requires.some c.in_default.ensures (Err c.in-Err.fault) (record { done = made.done; stopped = made.stopped; short = made.short; full = made.full }) made.counts made.counted made.hands made.same_hands)

pub returns-in-Some-clause-cause : goal.returns-in-Some-clause-cause
returns-in-Some-clause-cause g c =
    let core = c.args.self.now in
    refused_caused g.O.Objects g.O.Reader.ObjectRead g.O.Writer.ObjectWrite core core c.args.actor (Event.Create c.args.label.now c.args.path.now WriteType.MustCache c.args.worker) _ c.in-Some.refusal (create_calm core.master (here core.workers.items core.hands.items c.args.actor c.args.label.now c.args.worker) c.args.path.now) (sym c.in-Some.ensures)

pub returns-in-Ok-clause-steady : goal.returns-in-Ok-clause-steady
returns-in-Ok-clause-steady g c =
    let made = c.in-Ok.ensures in
    let old = c.args.self.now in
    let at = here old.workers.items old.hands.items c.args.actor c.args.label.now c.args.worker in
    let areas = enters_areas g.D.Disk (Entry.Create old.master.kept.names.next_id c.args.path.now) old.master c.make_writer.new.self.master (create_room old.master c.args.path.now at c.in_default.ensures) (Ok c.in-Ok.field-0) (record { done = made.done; stopped = made.stopped; short = made.short; full = made.full }) in
    steady_by g.O.Objects g.O.Reader.ObjectRead g.O.Writer.ObjectWrite (media_same g.O.Objects areas made.stores made.workers) (hands_added g.O.Reader.ObjectRead g.O.Writer.ObjectWrite old.hands.items c.make_writer.new.self.hands.items (pred c.args.actor) c.args.label.now _ made.hands (refl, refl))

pub returns-in-Err-clause-steady : goal.returns-in-Err-clause-steady
returns-in-Err-clause-steady g c =
    let made = c.in-Err.ensures in
    let old = c.args.self.now in
    let at = here old.workers.items old.hands.items c.args.actor c.args.label.now c.args.worker in
    let areas = enters_areas g.D.Disk (Entry.Create old.master.kept.names.next_id c.args.path.now) old.master c.make_writer.new.self.master (create_room old.master c.args.path.now at c.in_default.ensures) (Err c.in-Err.fault) (record { done = made.done; stopped = made.stopped; short = made.short; full = made.full }) in
    steady_by g.O.Objects g.O.Reader.ObjectRead g.O.Writer.ObjectWrite (media_same g.O.Objects areas made.stores made.workers) (hands_kept g.O.Reader.ObjectRead g.O.Writer.ObjectWrite old.hands.items c.make_writer.new.self.hands.items (pred c.args.actor) made.same_hands)

pub returns-in-Ok-clause-media : goal.returns-in-Ok-clause-media
returns-in-Ok-clause-media g c =
    let made = c.in-Ok.ensures in
    let old = c.args.self.now in
    let at = here old.workers.items old.hands.items c.args.actor c.args.label.now c.args.worker in
    media_same g.O.Objects (enters_areas g.D.Disk (Entry.Create old.master.kept.names.next_id c.args.path.now) old.master c.make_writer.new.self.master (create_room old.master c.args.path.now at c.in_default.ensures) (Ok c.in-Ok.field-0) (record { done = made.done; stopped = made.stopped; short = made.short; full = made.full })) made.stores made.workers

pub returns-in-Err-clause-media : goal.returns-in-Err-clause-media
returns-in-Err-clause-media g c =
    let made = c.in-Err.ensures in
    let old = c.args.self.now in
    let at = here old.workers.items old.hands.items c.args.actor c.args.label.now c.args.worker in
    media_same g.O.Objects (enters_areas g.D.Disk (Entry.Create old.master.kept.names.next_id c.args.path.now) old.master c.make_writer.new.self.master (create_room old.master c.args.path.now at c.in_default.ensures) (Err c.in-Err.fault) (record { done = made.done; stopped = made.stopped; short = made.short; full = made.full })) made.stores made.workers

pub returns-in-Err-clause-crash : goal.returns-in-Err-clause-crash
returns-in-Err-clause-crash g c =
    let made = c.in-Err.ensures in
    let old = c.args.self.now in
    let at = here old.workers.items old.hands.items c.args.actor c.args.label.now c.args.worker in
    let entry = Entry.Create old.master.kept.names.next_id c.args.path.now in
    subst (Leads g.D.Disk old.master c.make_writer.new.self.master (entered entry (standing_of old.master))) (sym c.fault_reply.ensures)
    (enters_leads g.D.Disk entry old.master c.make_writer.new.self.master (create_room old.master c.args.path.now at c.in_default.ensures) (create_up old.master c.args.path.now at c.in_default.ensures) (Err c.in-Err.fault) (record { done = made.done; stopped = made.stopped; short = made.short; full = made.full }))
