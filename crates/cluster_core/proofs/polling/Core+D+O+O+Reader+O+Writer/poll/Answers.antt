use Rattle.cluster_core.proofs.PollGo.{poll_no_label, poll_label}
use Rattle.cluster_core.proofs.Caused.{poll_caused}
use Rattle.cluster_core.proofs.MediaStay.{media_kept, media_then}
use Rattle.std.specs.Prelude.{pred}
use Rattle.cluster_core.proofs.SteadyStay.{ended_was, hand_polled, steady_added, steady_ended, steady_kept}
use Rattle.cluster_core.proofs.polling.Core+D+O+O+Reader+O+Writer.poll.Goals as goal

pub returns-in-None-clause-steps : goal.returns-in-None-clause-steps
returns-in-None-clause-steps g c =
    let took = c.in-None.ensures in
    poll_no_label g.O.Objects g.O.Reader.ObjectRead g.O.Writer.ObjectWrite c.args.self.now c.take_hand.new.self c.args.actor c.requires.actor c.args.label.now c.args.max took.rest took.workers took.none took.same

pub returns-in-Some-clause-steps : goal.returns-in-Some-clause-steps
returns-in-Some-clause-steps g c =
    let took = c.in-Some.ensures in
    let put = c.put_hand.ensures in
    poll_label g.O.Objects g.O.Reader.ObjectRead g.O.Writer.ObjectWrite c.args.self.now c.take_hand.new.self c.args.actor c.requires.actor c.args.label.now c.args.max took.rest took.workers c.put_hand.new.self c.in-Some.row.hand c.poll_hand-gave.new.hand c.in-Some.row.label c.poll_hand-gave.result c.reply_of.result c.reply_of.ensures took.label took.taken put.rest put.workers put.put c.poll_hand-gave.ensures

pub returns-in-None-clause-media : goal.returns-in-None-clause-media
returns-in-None-clause-media g c = media_kept g.O.Objects c.in-None.ensures.rest c.in-None.ensures.workers

pub returns-in-Some-clause-media : goal.returns-in-Some-clause-media
returns-in-Some-clause-media g c = media_then g.O.Objects (media_kept g.O.Objects c.in-Some.ensures.rest c.in-Some.ensures.workers) (media_kept g.O.Objects c.put_hand.ensures.rest c.put_hand.ensures.workers)

pub returns-in-Some-clause-cause : goal.returns-in-Some-clause-cause
returns-in-Some-clause-cause g c =
    let took = c.in-Some.ensures in
    poll_caused g.O.Objects g.O.Reader.ObjectRead g.O.Writer.ObjectWrite c.args.self.now c.take_hand.new.self c.put_hand.new.self c.args.actor c.args.label.now c.in-Some.row.label c.in-Some.row.hand c.poll_hand-gave.new.hand took.label took.taken c.put_hand.ensures.put c.take_hand.new.self.block c.args.max c.poll_hand-gave.result c.poll_hand-gave.ensures c.reply_of.result c.reply_of.ensures

pub returns-in-None-clause-steady : goal.returns-in-None-clause-steady
returns-in-None-clause-steady g c =
    let took = c.in-None.ensures in
    steady_kept g.O.Objects g.O.Reader.ObjectRead g.O.Writer.ObjectWrite (pred c.args.actor) took.rest took.workers took.same

pub returns-in-Some-clause-steady : goal.returns-in-Some-clause-steady
returns-in-Some-clause-steady g c = λ steady.
    let took = c.in-Some.ensures in
    let put = c.put_hand.ensures in
    let was = ended_was g.O.Reader.ObjectRead g.O.Writer.ObjectWrite c.args.self.now.hands.items c.take_hand.new.self.hands.items (pred c.args.actor) c.args.label.now c.in-Some.row.hand took.taken steady.hands in
    let now = hand_polled g.O.Reader.ObjectRead g.O.Writer.ObjectWrite c.take_hand.new.self.block c.args.max c.in-Some.row.hand c.poll_hand-gave.new.hand c.poll_hand-gave.result c.poll_hand-gave.ensures was in
    steady_added g.O.Objects g.O.Reader.ObjectRead g.O.Writer.ObjectWrite (pred c.args.actor) _ _ put.rest put.workers put.put now (steady_ended g.O.Objects g.O.Reader.ObjectRead g.O.Writer.ObjectWrite (pred c.args.actor) _ _ took.rest took.workers took.taken steady)
