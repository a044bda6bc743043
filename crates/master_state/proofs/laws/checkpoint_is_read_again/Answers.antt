use Rattle.master_state.proofs.Again.{checkpoint_again}
use Rattle.master_state.proofs.laws.checkpoint_is_read_again.Goals as goal

pub returns : goal.returns
returns c = checkpoint_again
