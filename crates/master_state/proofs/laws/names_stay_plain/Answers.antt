use Rattle.master_state.proofs.Stay.{stay}
use Rattle.master_state.proofs.laws.names_stay_plain.Goals as goal

pub returns : goal.returns
returns c = stay
