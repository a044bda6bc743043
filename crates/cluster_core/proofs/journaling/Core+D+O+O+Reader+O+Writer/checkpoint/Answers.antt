use Rattle.std.proofs.Common.{refl, sym}
use Rattle.std.specs.Prelude.{Ok, Err}
use Rattle.cluster_core.proofs.CheckpointGo.{checkpoint_caused, checkpoint_fails, checkpoint_media, checkpoint_refused, checkpoint_steps}
use Rattle.cluster_core.proofs.journaling.Core+D+O+O+Reader+O+Writer.checkpoint.Goals as goal

pub returns-then-is_stopped-clause-steps : goal.returns-then-is_stopped-clause-steps
returns-then-is_stopped-clause-steps g c = checkpoint_refused g.O.Objects g.O.Reader.ObjectRead g.O.Writer.ObjectWrite c.args.self.now c.args.actor (sym c.if-is_stopped.ensures)

pub returns-in-Ok-clause-steps : goal.returns-in-Ok-clause-steps
returns-in-Ok-clause-steps g c =
    let made = c.in-Ok.ensures in
    checkpoint_steps g.O.Objects g.O.Reader.ObjectRead g.O.Writer.ObjectWrite c.args.self.now c.args.actor (sym c.if-is_stopped.ensures) _ refl refl refl (Ok c.in-Ok.field-0) (record { done = made.done; stopped = λ e. (made.stopped e, made.fits e); short = made.short; full = made.full })

pub returns-in-Err-clause-steps : goal.returns-in-Err-clause-steps
returns-in-Err-clause-steps g c =
    let made = c.in-Err.ensures in
    checkpoint_fails g.O.Objects g.O.Reader.ObjectRead g.O.Writer.ObjectWrite c.args.self.now c.args.actor (sym c.if-is_stopped.ensures) _ refl refl refl c.in-Err.fault c.fault_reply.result c.fault_reply.ensures (record { done = made.done; stopped = λ e. (made.stopped e, made.fits e); short = made.short; full = made.full })

pub returns-in-Err-clause-media : goal.returns-in-Err-clause-media
returns-in-Err-clause-media g c =
    let made = c.in-Err.ensures in
    checkpoint_media g.O.Objects g.O.Reader.ObjectRead g.O.Writer.ObjectWrite c.args.self.now c.args.actor (sym c.if-is_stopped.ensures) _ refl refl refl c.in-Err.fault refl (record { done = made.done; stopped = λ e. (made.stopped e, made.fits e); short = made.short; full = made.full })

pub returns-in-Err-clause-cause : goal.returns-in-Err-clause-cause
returns-in-Err-clause-cause g c =
    let made = c.in-Err.ensures in
    checkpoint_caused g.O.Objects g.O.Reader.ObjectRead g.O.Writer.ObjectWrite c.args.self.now c.args.actor (sym c.if-is_stopped.ensures) (record c.args.self.now { master = c.renew.new.master }) c.in-Err.fault c.fault_reply.result c.fault_reply.ensures (record { done = made.done; stopped = λ e. (made.stopped e, made.fits e); short = made.short; full = made.full })
