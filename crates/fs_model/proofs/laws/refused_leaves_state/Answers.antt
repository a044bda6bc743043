use Rattle.fs_model.proofs.Refused.{refused_leaves_state}
use Rattle.fs_model.proofs.laws.refused_leaves_state.Goals as goal

pub returns : goal.returns
returns c = refused_leaves_state
