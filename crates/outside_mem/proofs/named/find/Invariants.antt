use Rattle.std.proofs.Common.{◌≡◌, drop}
use Rattle.outside_mem.specs.Named.{item_under}
use Rattle.outside_mem.proofs.named.find.Given as goal

abbrev pub invariant-loop-one : goal.invariant-loop-one
invariant-loop-one g l = item_under (drop l.one-index l.items) l.name ≡ item_under l.items l.name
