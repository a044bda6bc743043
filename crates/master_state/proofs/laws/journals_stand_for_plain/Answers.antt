use Rattle.fs_model.specs.Changes.{no_names}
use Rattle.master_state.proofs.Stay.{stay_all, first_plain}
use Rattle.master_state.proofs.laws.journals_stand_for_plain.Goals as goal

pub returns : goal.returns
returns c = λ es h. stay_all es no_names h first_plain
