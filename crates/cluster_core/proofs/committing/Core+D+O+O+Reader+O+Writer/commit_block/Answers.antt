use Rattle.cluster_core.proofs.Caused.{lost_at}
use Rattle.cluster_core.proofs.committing.Core+D+O+O+Reader+O+Writer.commit_block.Goals as goal

pub returns-in-Err-clause-counted : goal.returns-in-Err-clause-counted
returns-in-Err-clause-counted g c = λ failed. (c.requires.some, lost_at g.O.Objects c.in-Err.ensures.lost)
