use Rattle.master_state.proofs.Fitting.{change_fits}
use Rattle.master_state.proofs.laws.changes_fit.Goals as goal

pub returns : goal.returns
returns c = change_fits
