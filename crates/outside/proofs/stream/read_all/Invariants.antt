use Rattle.std.proofs.Common.{◌-◌, ◌≤◌, vec_len}
use Rattle.outside.specs.Streams.{Gives}
use Rattle.outside.proofs.stream.read_all.Given as goal

abbrev pub invariant-pulling : goal.invariant-pulling
invariant-pulling g l = record {
  short : vec_len l.bytes ≤ l.limit;
  pulled : Gives (g.S.Source.left l.fn.source) (g.S.Source.left l.source) l.bytes.items;
  later : g.S.Source.faults l.fn.source ≤ g.S.Source.faults l.source;
}

abbrev pub decreases-pulling : goal.decreases-pulling
decreases-pulling g l = l.limit - vec_len l.bytes
