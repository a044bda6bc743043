use Rattle.fs_model.proofs.Commute.{own_may_come_earlier}
use Rattle.fs_model.proofs.laws.own_events_may_come_earlier.Goals as goal

pub returns : goal.returns
returns c = own_may_come_earlier
