use Rattle.fs_model.proofs.Refused.{change_is_acknowledged}
use Rattle.fs_model.proofs.laws.only_acknowledged_change.Goals as goal

pub returns : goal.returns
returns c = change_is_acknowledged
