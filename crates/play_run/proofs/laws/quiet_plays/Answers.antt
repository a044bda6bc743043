use Rattle.play_run.proofs.Quiet.{quiet_plays}
use Rattle.play_run.proofs.laws.quiet_plays.Goals as goal

pub returns : goal.returns
returns g c = quiet_plays g.D.Disk g.O.Objects g.O.Reader.ObjectRead g.O.Writer.ObjectWrite
