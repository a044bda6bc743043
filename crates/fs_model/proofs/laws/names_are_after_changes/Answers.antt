use Rattle.fs_model.proofs.Named.{Run-names}
use Rattle.fs_model.proofs.laws.names_are_after_changes.Goals as goal

pub returns : goal.returns
returns c = Run-names
