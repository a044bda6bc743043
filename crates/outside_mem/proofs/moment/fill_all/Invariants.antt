use Rattle.std.proofs.Common.{◌≡◌, drop}
use Rattle.outside_mem.specs.Moments.{filled_all}
use Rattle.outside_mem.proofs.moment.fill_all.Given as goal

abbrev pub invariant-loop-at : goal.invariant-loop-at
invariant-loop-at l = filled_all l.byte (drop l.at-index l.ranges) l.filled.items ≡ filled_all l.byte l.ranges l.fn.held.items
