use Rattle.play_run.proofs.Quiet.{quiet_journals}
use Rattle.play_run.proofs.laws.quiet_journals.Goals as goal

pub returns : goal.returns
returns g c = quiet_journals g.D.Disk g.O.Objects g.O.Reader.ObjectRead g.O.Writer.ObjectWrite
