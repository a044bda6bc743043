use Rattle.master_node.proofs.Beginnings.{begun, still_fresh}
use Rattle.master_node.proofs.recovery.begin.Goals as goal

pub returns-in_default-clause-any_moment : goal.returns-in_default-clause-any_moment
returns-in_default-clause-any_moment g c = still_fresh g.D.Disk c.args.setup.now c.args.journal.now c.requires.fresh c.requires.first c.requires.ready

pub returns-in-Ok-checkpoint-clause-any_moment : goal.returns-in-Ok-checkpoint-clause-any_moment
returns-in-Ok-checkpoint-clause-any_moment g c = λ tell.
    begun g.D.Disk c.args.setup.now c.args.journal.now c.requires.fresh c.requires.first c.requires.ready c.checkpoint.new.self _ c.in-Ok.ensures.entries c.in-Ok.ensures.again (c.checkpoint.ensures.any_moment _ c.requires.ready tell)

pub returns-in-Err-Full-clause-any_moment : goal.returns-in-Err-Full-clause-any_moment
returns-in-Err-Full-clause-any_moment g c = λ tell.
    begun g.D.Disk c.args.setup.now c.args.journal.now c.requires.fresh c.requires.first c.requires.ready c.checkpoint.new.self _ c.in-Ok.ensures.entries c.in-Ok.ensures.again (c.checkpoint.ensures.any_moment _ c.requires.ready tell)

pub returns-in-Err-Failed-clause-any_moment : goal.returns-in-Err-Failed-clause-any_moment
returns-in-Err-Failed-clause-any_moment g c = λ tell.
    begun g.D.Disk c.args.setup.now c.args.journal.now c.requires.fresh c.requires.first c.requires.ready c.checkpoint.new.self _ c.in-Ok.ensures.entries c.in-Ok.ensures.again (c.checkpoint.ensures.any_moment _ c.requires.ready tell)

pub returns-clause-any_moment : goal.returns-clause-any_moment
returns-clause-any_moment g c = λ tell.
    begun g.D.Disk c.args.setup.now c.args.journal.now c.requires.fresh c.requires.first c.requires.ready c.checkpoint.new.self _ c.in-Ok.ensures.entries c.in-Ok.ensures.again (c.checkpoint.ensures.any_moment _ c.requires.ready tell)
