use Rattle.fs_model.specs.declared.event.Event.{Event}
use Rattle.cluster_core.proofs.NextGo.{next_no_label, next_label}
use Rattle.cluster_core.proofs.Caused.{next_caused}
use Rattle.cluster_core.proofs.MediaStay.{media_kept, media_then, media_sought}
use Rattle.std.specs.Prelude.{pred}
use Rattle.cluster_core.proofs.SteadyStay.{ended_was, hand_sought, steady_added, steady_ended, steady_kept, steady_still}
use Rattle.cluster_core.proofs.reading.Core+D+O+O+Reader+O+Writer.next.Goals as goal

pub returns-in-None-clause-steps : goal.returns-in-None-clause-steps
returns-in-None-clause-steps g c =
    let took = c.in-None.ensures in
    next_no_label g.O.Objects g.O.Reader.ObjectRead g.O.Writer.ObjectWrite c.args.self.now c.take_hand.new.self c.args.actor c.requires c.args.label.now took.rest took.workers took.none took.same

pub returns-in-Some-clause-steps : goal.returns-in-Some-clause-steps
returns-in-Some-clause-steps g c =
    let took = c.in-Some.ensures in
    let did = c.seek_hand-found.ensures in
    let put = c.put_hand.ensures in
    next_label g.O.Objects g.O.Reader.ObjectRead g.O.Writer.ObjectWrite c.args.self.now c.take_hand.new.self c.args.actor c.requires c.args.label.now took.rest took.workers c.seek_hand-found.new.self c.put_hand.new.self c.in-Some.row.hand c.seek_hand-found.new.hand c.seek_hand-found.result did.rest did.hands put.rest put.workers did.halts did.found c.in-Some.row.label c.found_reply.result c.found_reply.ensures took.label took.taken put.put

pub returns-in-None-clause-media : goal.returns-in-None-clause-media
returns-in-None-clause-media g c = media_kept g.O.Objects c.in-None.ensures.rest c.in-None.ensures.workers

pub returns-in-Some-clause-media : goal.returns-in-Some-clause-media
returns-in-Some-clause-media g c = media_then g.O.Objects (media_kept g.O.Objects c.in-Some.ensures.rest c.in-Some.ensures.workers) (media_then g.O.Objects (media_sought g.O.Objects g.O.Reader.ObjectRead c.take_hand.new.self.master.kept.names.nodes c.take_hand.new.self.block c.in-Some.row.hand c.seek_hand-found.new.hand c.seek_hand-found.result c.seek_hand-found.ensures.rest c.seek_hand-found.ensures.found) (media_kept g.O.Objects c.put_hand.ensures.rest c.put_hand.ensures.workers))

pub returns-in-Some-clause-cause : goal.returns-in-Some-clause-cause
returns-in-Some-clause-cause g c =
    let took = c.in-Some.ensures in
    next_caused g.O.Objects g.O.Reader.ObjectRead g.O.Writer.ObjectWrite c.args.self.now c.take_hand.new.self c.seek_hand-found.new.self c.put_hand.new.self c.args.actor (Event.Next c.args.label.now) took.workers c.put_hand.ensures.workers c.take_hand.new.self.master.kept.names.nodes c.take_hand.new.self.block c.in-Some.row.hand c.seek_hand-found.new.hand c.seek_hand-found.result c.seek_hand-found.ensures.found c.found_reply.result c.found_reply.ensures

pub returns-in-None-clause-steady : goal.returns-in-None-clause-steady
returns-in-None-clause-steady g c =
    let took = c.in-None.ensures in
    steady_kept g.O.Objects g.O.Reader.ObjectRead g.O.Writer.ObjectWrite (pred c.args.actor) took.rest took.workers took.same

pub returns-in-Some-clause-steady : goal.returns-in-Some-clause-steady
returns-in-Some-clause-steady g c = λ steady.
    let took = c.in-Some.ensures in
    let did = c.seek_hand-found.ensures in
    let put = c.put_hand.ensures in
    let mid = c.take_hand.new.self in
    let was = ended_was g.O.Reader.ObjectRead g.O.Writer.ObjectWrite c.args.self.now.hands.items mid.hands.items (pred c.args.actor) c.args.label.now c.in-Some.row.hand took.taken steady.hands in
    let out = steady_ended g.O.Objects g.O.Reader.ObjectRead g.O.Writer.ObjectWrite (pred c.args.actor) _ _ took.rest took.workers took.taken steady in
    let now = hand_sought g.O.Reader.ObjectRead g.O.Writer.ObjectWrite g.O.Objects mid.master.kept.names.nodes mid.block mid.workers.items c.seek_hand-found.new.self.workers.items c.in-Some.row.hand c.seek_hand-found.new.hand c.seek_hand-found.result did.found out.tiers was in
    let sought = steady_still g.O.Objects g.O.Reader.ObjectRead g.O.Writer.ObjectWrite (media_sought g.O.Objects g.O.Reader.ObjectRead mid.master.kept.names.nodes mid.block c.in-Some.row.hand c.seek_hand-found.new.hand c.seek_hand-found.result did.rest did.found) did.hands out in
    steady_added g.O.Objects g.O.Reader.ObjectRead g.O.Writer.ObjectWrite (pred c.args.actor) _ _ put.rest put.workers put.put now sought
