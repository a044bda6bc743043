use Rattle.play_run.proofs.Quiet.{steady_plays}
use Rattle.play_run.proofs.laws.steady_plays.Goals as goal

pub returns : goal.returns
returns g c = steady_plays g.D.Disk g.O.Objects g.O.Reader.ObjectRead g.O.Writer.ObjectWrite
