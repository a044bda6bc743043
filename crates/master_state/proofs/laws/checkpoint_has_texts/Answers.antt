use Rattle.master_state.proofs.Texts.{checkpoint_texts}
use Rattle.master_state.proofs.laws.checkpoint_has_texts.Goals as goal

pub returns : goal.returns
returns c = checkpoint_texts
