use Rattle.std.proofs.Common.{◌≡◌, ◌≤◌, ◌-◌, length, take}
use Rattle.outside.specs.Streams.{Takes}
use Rattle.outside.proofs.stream.push_all.Given as goal

abbrev pub invariant-pushing : goal.invariant-pushing
invariant-pushing g l = record {
  within : l.at ≤ length l.text;
  taken : Takes (g.S.Sink.taken l.fn.sink) (g.S.Sink.taken l.sink) (take l.at l.text);
  later : g.S.Sink.faults l.fn.sink ≤ g.S.Sink.faults l.sink;
  untouched : l.at ≡ 0 → l.sink ≡ l.fn.sink;
}

abbrev pub decreases-pushing : goal.decreases-pushing
decreases-pushing g l = length l.text - l.at
