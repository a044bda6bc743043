use Rattle.fs_model.proofs.Refused.{refused_leaves_names}
use Rattle.fs_model.proofs.laws.refused_leaves_names.Goals as goal

pub returns : goal.returns
returns c = refused_leaves_names
