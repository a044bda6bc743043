use Rattle.cluster_core.proofs.OpenGo.{is_past}
use Rattle.cluster_core.proofs.opening.is_past.Goals as goal

pub returns : goal.returns
returns c = is_past c.args.len c.args.block c.requires
