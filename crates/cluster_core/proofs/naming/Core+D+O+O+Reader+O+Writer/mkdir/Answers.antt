use Rattle.std.proofs.Common.{refl, sym, subst}
use Rattle.std.specs.Prelude.{Err, Ok}
use Rattle.fs_model.specs.declared.event.Event.{Event}
use Rattle.fs_model.specs.declared.reply.Reply.{Reply}
use Rattle.journal_entry.specs.declared.entry.Entry.{Entry}
use Rattle.master_node.specs.Mastering.{entered, standing_of}
use Rattle.cluster_core.specs.Crashes.{Leads}
use Rattle.cluster_core.specs.Goes.{Steps}
use Rattle.cluster_core.proofs.Entries.{enters_areas, enters_leads, mkdir_room, mkdir_up}
use Rattle.cluster_core.proofs.MediaStay.{media_same}
use Rattle.cluster_core.proofs.NamesGo.{mkdir_refused, mkdir_steps}
use Rattle.cluster_core.proofs.naming.Core+D+O+O+Reader+O+Writer.mkdir.Goals as goal

pub returns-in-Some-clause-steps : goal.returns-in-Some-clause-steps
returns-in-Some-clause-steps g c = mkdir_refused g.O.Objects g.O.Reader.ObjectRead g.O.Writer.ObjectWrite c.args.self.now c.args.actor c.args.path.now c.in-Some.refusal c.in-Some.ensures

pub returns-in-Ok-clause-steps : goal.returns-in-Ok-clause-steps
returns-in-Ok-clause-steps g c =
    let made = c.in-Ok.ensures in
    mkdir_steps g.O.Objects g.O.Reader.ObjectRead g.O.Writer.ObjectWrite c.args.self.now c.args.actor c.args.path.now c.make_directory.new.self c.in_default.ensures made.block made.workers made.hands (Ok c.in-Ok.field-0) (record { done = made.done; stopped = made.stopped; short = made.short; full = made.full }) made.counts made.counted

pub returns-in-Err-clause-steps : goal.returns-in-Err-clause-steps
returns-in-Err-clause-steps g c =
    let made = c.in-Err.ensures in
    subst (Steps g.D.Disk g.O.Objects g.O.Reader.ObjectRead g.O.Writer.ObjectWrite c.args.self.now c.make_directory.new.self c.args.actor (Event.Mkdir c.args.path.now)) (sym c.fault_reply.ensures)
    (mkdir_steps g.O.Objects g.O.Reader.ObjectRead g.O.Writer.ObjectWrite c.args.self.now c.args.actor c.args.path.now c.make_directory.new.self c.in_default.ensures made.block made.workers made.hands (Err c.in-Err.fault) (record { done = made.done; stopped = made.stopped; short = made.short; full = made.full }) made.counts made.counted)

pub returns-in-Err-clause-media : goal.returns-in-Err-clause-media
returns-in-Err-clause-media g c =
    let made = c.in-Err.ensures in
    media_same g.O.Objects (enters_areas g.D.Disk (Entry.Mkdir c.args.path.now) c.args.self.now.master c.make_directory.new.self.master (mkdir_room c.args.self.now.master c.args.path.now c.in_default.ensures) (Err c.in-Err.fault) (record { done = made.done; stopped = made.stopped; short = made.short; full = made.full })) made.stores made.workers

pub returns-in-Err-clause-crash : goal.returns-in-Err-clause-crash
returns-in-Err-clause-crash g c =
    let made = c.in-Err.ensures in
    let old = c.args.self.now.master in
    subst (Leads g.D.Disk old c.make_directory.new.self.master (entered (Entry.Mkdir c.args.path.now) (standing_of old))) (sym c.fault_reply.ensures)
    (enters_leads g.D.Disk (Entry.Mkdir c.args.path.now) old c.make_directory.new.self.master (mkdir_room old c.args.path.now c.in_default.ensures) (mkdir_up old c.args.path.now c.in_default.ensures) (Err c.in-Err.fault) (record { done = made.done; stopped = made.stopped; short = made.short; full = made.full }))
