use Rattle.cluster_core.proofs.CloseGo.{close_refused, close_taken}
use Rattle.cluster_core.proofs.MediaStay.{media_kept, media_then, media_freed}
use Rattle.std.specs.Prelude.{pred}
use Rattle.cluster_core.proofs.SteadyStay.{steady_ended, steady_kept, steady_still}
use Rattle.cluster_core.proofs.closing.Core+D+O+O+Reader+O+Writer.close_label.Goals as goal

pub returns-in-None-clause-steps : goal.returns-in-None-clause-steps
returns-in-None-clause-steps g c = close_refused g.O.Objects g.O.Reader.ObjectRead g.O.Writer.ObjectWrite c.args.self.now _ c.args.label.now c.args.actor c.requires c.in-None.ensures.rest c.in-None.ensures.workers c.in-None.ensures.same c.in-None.ensures.none

pub returns-in-Some-clause-steps : goal.returns-in-Some-clause-steps
returns-in-Some-clause-steps g c = close_taken g.O.Objects g.O.Reader.ObjectRead g.O.Writer.ObjectWrite c.args.self.now _ c.args.label.now c.take_hand.new.self c.args.actor c.requires c.in-Some.row.hand c.in-Some.ensures.rest c.in-Some.ensures.workers c.in-Some.ensures.taken c.free_reserved.ensures.rest c.free_reserved.ensures.hands c.free_reserved.ensures.freed c.free_reserved.ensures.stopped c.free_reserved.ensures.none

pub returns-in-None-clause-media : goal.returns-in-None-clause-media
returns-in-None-clause-media g c = media_kept g.O.Objects c.in-None.ensures.rest c.in-None.ensures.workers

pub returns-in-Some-clause-media : goal.returns-in-Some-clause-media
returns-in-Some-clause-media g c = media_then g.O.Objects (media_kept g.O.Objects c.in-Some.ensures.rest c.in-Some.ensures.workers) (media_freed g.O.Objects c.in-Some.row.hand c.free_reserved.ensures.rest c.free_reserved.ensures.freed c.free_reserved.ensures.stopped c.free_reserved.ensures.none)

pub returns-in-None-clause-steady : goal.returns-in-None-clause-steady
returns-in-None-clause-steady g c =
    let took = c.in-None.ensures in
    steady_kept g.O.Objects g.O.Reader.ObjectRead g.O.Writer.ObjectWrite (pred c.args.actor) took.rest took.workers took.same

pub returns-in-Some-clause-steady : goal.returns-in-Some-clause-steady
returns-in-Some-clause-steady g c = λ steady.
    let took = c.in-Some.ensures in
    let did = c.free_reserved.ensures in
    steady_still g.O.Objects g.O.Reader.ObjectRead g.O.Writer.ObjectWrite (media_freed g.O.Objects c.in-Some.row.hand did.rest did.freed did.stopped did.none) did.hands (steady_ended g.O.Objects g.O.Reader.ObjectRead g.O.Writer.ObjectWrite (pred c.args.actor) _ _ took.rest took.workers took.taken steady)
