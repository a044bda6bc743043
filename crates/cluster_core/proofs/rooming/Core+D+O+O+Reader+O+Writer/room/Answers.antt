use Rattle.cluster_core.proofs.RoomSteps.{room_bad}
use Rattle.cluster_core.proofs.MediaStay.{media_kept, media_then}
use Rattle.std.specs.Prelude.{pred}
use Rattle.cluster_core.proofs.SteadyStay.{ended_was, steady_ended, steady_kept}
use Rattle.cluster_core.proofs.rooming.Core+D+O+O+Reader+O+Writer.room.Goals as goal

pub returns-in-None-clause-steps : goal.returns-in-None-clause-steps
returns-in-None-clause-steps g c = room_bad g.O.Objects g.O.Reader.ObjectRead g.O.Writer.ObjectWrite c.args.self.now _ c.args.label.now c.args.actor c.requires c.in-None.ensures.rest c.in-None.ensures.workers c.in-None.ensures.same c.in-None.ensures.none

pub returns-in-None-clause-media : goal.returns-in-None-clause-media
returns-in-None-clause-media g c = media_kept g.O.Objects c.in-None.ensures.rest c.in-None.ensures.workers

pub returns-in-Some-clause-media : goal.returns-in-Some-clause-media
returns-in-Some-clause-media g c = media_then g.O.Objects (media_kept g.O.Objects c.in-Some.ensures.took.rest c.in-Some.ensures.took.workers) c.room_for.ensures.media

pub returns-in-None-clause-steady : goal.returns-in-None-clause-steady
returns-in-None-clause-steady g c =
    let took = c.in-None.ensures in
    steady_kept g.O.Objects g.O.Reader.ObjectRead g.O.Writer.ObjectWrite (pred c.args.actor) took.rest took.workers took.same

pub returns-in-Some-clause-steady : goal.returns-in-Some-clause-steady
returns-in-Some-clause-steady g c = λ steady.
    let took = c.in-Some.ensures.took in
    c.room_for.ensures.steady (steady_ended g.O.Objects g.O.Reader.ObjectRead g.O.Writer.ObjectWrite (pred c.args.actor) _ _ took.rest took.workers took.hands steady) (ended_was g.O.Reader.ObjectRead g.O.Writer.ObjectWrite c.args.self.now.hands.items c.take_writer.new.self.hands.items (pred c.args.actor) c.args.label.now _ took.hands steady.hands)
