use Rattle.std.proofs.Common.{◌≤◌, take}
use Rattle.cluster_core.specs.Media.{MediaStays}
use Rattle.play_run.specs.Play.{Tells}
use Rattle.play_run.proofs.play.play_over.Given as goal

abbrev pub invariant-loop-command : goal.invariant-loop-command
invariant-loop-command g l = record {
  told : Tells g.D.Disk g.O.Objects g.O.Reader.ObjectRead g.O.Writer.ObjectWrite (take l.command-index l.command-items) l.fn.core l.core (g.S.Sink.taken l.fn.sink) (g.S.Sink.taken l.sink);
  media : MediaStays g.D.Disk g.O.Objects l.fn.core l.core;
  later : g.S.Sink.faults l.fn.sink ≤ g.S.Sink.faults l.sink;
}
