use Rattle.std.proofs.Common.{refl}
use Rattle.inode_tree.specs.Rows.{file_in_row}
use Rattle.cluster_core.proofs.OpenGo.{open_refused, open_short, open_done}
use Rattle.cluster_core.proofs.MediaStay.{media_itself, media_kept, media_then}
use Rattle.std.specs.Prelude.{pred}
use Rattle.cluster_core.proofs.SteadyStay.{steady_added, steady_kept, steady_same}
use Rattle.cluster_core.proofs.Caused.{open_calm, refused_caused}
use Rattle.cluster_core.specs.Openings.{here}
use Rattle.fs_model.specs.declared.event.Event.{Event}
use Rattle.fs_model.specs.declared.event.ReadType.{ReadType}
use Rattle.cluster_core.proofs.opening.Core+D+O+O+Reader+O+Writer.open_file.Goals as goal

pub returns-in-Err-clause-steps : goal.returns-in-Err-clause-steps
returns-in-Err-clause-steps g c = open_refused g.O.Objects g.O.Reader.ObjectRead g.O.Writer.ObjectWrite c.args.self.now c.args.actor c.requires c.args.label.now c.args.path.now c.args.worker c.in-Err.refusal (c.in-Err.ensures).err

pub returns-in-Err-prepare_label-clause-steps : goal.returns-in-Err-prepare_label-clause-steps
returns-in-Err-prepare_label-clause-steps g c =
    let did = c.prepare_label.ensures in
    open_short g.O.Objects g.O.Reader.ObjectRead g.O.Writer.ObjectWrite c.args.self.now c.args.actor c.requires c.args.label.now c.args.path.now c.args.worker c.prepare_label.new.self did.rest did.workers did.hands

pub returns-in-Ok-prepare_label-clause-steps : goal.returns-in-Ok-prepare_label-clause-steps
returns-in-Ok-prepare_label-clause-steps g c =
    let may = (c.in-Ok.ensures).ok in
    let did = c.in-Ok-prepare_label.ensures in
    let add = c.add_hand.ensures in
    open_done g.O.Objects g.O.Reader.ObjectRead g.O.Writer.ObjectWrite c.args.self.now c.args.actor c.requires c.args.label.now c.args.path.now c.args.worker c.prepare_label.new.self c.add_hand.new.self (file_in_row c.in-Ok.row) c.in-Ok-prepare_label.copy did.label may.0 may.1 may.2 did.rest did.workers did.hands add.rest add.workers add.put

pub returns-in-Err-clause-media : goal.returns-in-Err-clause-media
returns-in-Err-clause-media g c = media_itself g.O.Objects

pub returns-in-Err-prepare_label-clause-media : goal.returns-in-Err-prepare_label-clause-media
returns-in-Err-prepare_label-clause-media g c = media_kept g.O.Objects c.prepare_label.ensures.rest c.prepare_label.ensures.workers

pub returns-in-Ok-prepare_label-clause-media : goal.returns-in-Ok-prepare_label-clause-media
returns-in-Ok-prepare_label-clause-media g c = media_then g.O.Objects (media_kept g.O.Objects c.in-Ok-prepare_label.ensures.rest c.in-Ok-prepare_label.ensures.workers) (media_kept g.O.Objects c.add_hand.ensures.rest c.add_hand.ensures.workers)

pub returns-in-Err-clause-steady : goal.returns-in-Err-clause-steady
returns-in-Err-clause-steady g c = steady_same g.O.Objects g.O.Reader.ObjectRead g.O.Writer.ObjectWrite refl refl

pub returns-in-Err-prepare_label-clause-steady : goal.returns-in-Err-prepare_label-clause-steady
returns-in-Err-prepare_label-clause-steady g c =
    let did = c.prepare_label.ensures in
    steady_kept g.O.Objects g.O.Reader.ObjectRead g.O.Writer.ObjectWrite (pred c.args.actor) did.rest did.workers did.hands

pub returns-in-Ok-prepare_label-clause-steady : goal.returns-in-Ok-prepare_label-clause-steady
returns-in-Ok-prepare_label-clause-steady g c = λ steady.
    let did = c.in-Ok-prepare_label.ensures in
    let put = c.add_hand.ensures in
    steady_added g.O.Objects g.O.Reader.ObjectRead g.O.Writer.ObjectWrite (pred c.args.actor) _ _ put.rest put.workers put.put tt (steady_kept g.O.Objects g.O.Reader.ObjectRead g.O.Writer.ObjectWrite (pred c.args.actor) did.rest did.workers did.hands steady)

pub returns-in-Err-clause-cause : goal.returns-in-Err-clause-cause
returns-in-Err-clause-cause g c =
    let core = c.args.self.now in
    refused_caused g.O.Objects g.O.Reader.ObjectRead g.O.Writer.ObjectWrite core core c.args.actor (Event.OpenFile c.args.label.now c.args.path.now ReadType.NoCache c.args.worker) _ c.in-Err.refusal (open_calm core.master core.block (here core.workers.items core.hands.items c.args.actor c.args.label.now c.args.worker) c.args.path.now) c.in-Err.ensures.err
