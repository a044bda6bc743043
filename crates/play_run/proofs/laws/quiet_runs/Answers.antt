use Rattle.play_run.proofs.Runs.{quiet_runs}
use Rattle.play_run.proofs.laws.quiet_runs.Goals as goal

pub returns : goal.returns
returns g c = quiet_runs g.D.Disk g.O.Objects g.O.Reader.ObjectRead g.O.Writer.ObjectWrite
