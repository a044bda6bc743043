use Rattle.std.proofs.Common.{◌≡◌, drop}
use Rattle.outside_mem.specs.Held.{bytes_under}
use Rattle.outside_mem.proofs.whole.input_of.Given as goal

abbrev pub invariant-loop-input : goal.invariant-loop-input
invariant-loop-input l = bytes_under (drop l.input-index l.inputs) l.name ≡ bytes_under l.inputs l.name
