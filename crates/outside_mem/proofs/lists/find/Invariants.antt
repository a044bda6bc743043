use Rattle.std.proofs.Common.{◌≡◌}
use Rattle.outside_mem.specs.Stored.{held}
use Rattle.outside_mem.proofs.lists.find.Given as goal

abbrev pub invariant-loop-object : goal.invariant-loop-object
invariant-loop-object l = held l.object-iterator l.key ≡ held l.objects l.key
