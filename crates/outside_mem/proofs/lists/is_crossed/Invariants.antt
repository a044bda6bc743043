use Rattle.std.proofs.Common.{◌≡◌}
use Rattle.outside_mem.specs.Stored.{is_crossed}
use Rattle.outside_mem.proofs.lists.is_crossed.Given as goal

abbrev pub invariant-loop-object : goal.invariant-loop-object
invariant-loop-object l = is_crossed l.left l.key l.object-iterator ≡ is_crossed l.left l.key l.objects
