use Rattle.master_node.specs.Mastering.{entered, standing_of}
use Rattle.master_node.proofs.Masters.{only_ready, went_on}
use Rattle.master_node.proofs.master.Master.names_event.Goals as goal

pub returns-in-Ok-clause-any_moment : goal.returns-in-Ok-clause-any_moment
returns-in-Ok-clause-any_moment g c =
    went_on g.D.Disk c.args.self.now c.prepare.new.self c.go_on.new.self c.args.entry.now c.prepare.ensures.stays c.prepare.ensures.names c.go_on.ensures.any_moment

pub returns-in-Err-clause-any_moment : goal.returns-in-Err-clause-any_moment
returns-in-Err-clause-any_moment g c =
    went_on g.D.Disk c.args.self.now c.prepare.new.self c.go_on.new.self c.args.entry.now c.prepare.ensures.stays c.prepare.ensures.names c.go_on.ensures.any_moment

pub returns-in_err-prepare-clause-any_moment : goal.returns-in_err-prepare-clause-any_moment
returns-in_err-prepare-clause-any_moment g c =
    only_ready g.D.Disk c.args.self.now c.prepare.new.self c.prepare.new.self c.args.entry.now c.prepare.ensures.stays c.prepare.ensures.names (entered c.args.entry.now (standing_of c.args.self.now)) c.prepare.ensures.any_moment
