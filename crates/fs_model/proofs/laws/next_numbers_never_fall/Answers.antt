use Rattle.fs_model.proofs.NextNumbers.{next_numbers_rise}
use Rattle.fs_model.proofs.laws.next_numbers_never_fall.Goals as goal

pub returns : goal.returns
returns c = next_numbers_rise
