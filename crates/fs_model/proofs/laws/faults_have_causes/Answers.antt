use Rattle.fs_model.proofs.Causes.{faults_have_causes}
use Rattle.fs_model.proofs.laws.faults_have_causes.Goals as goal

pub returns : goal.returns
returns c = faults_have_causes
