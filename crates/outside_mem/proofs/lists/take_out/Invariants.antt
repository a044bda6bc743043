use Rattle.std.proofs.Common.{◌≡◌, ◌+◌, ◌++◌, length}
use Rattle.outside_mem.specs.Stored.{with_key, without}
use Rattle.outside_mem.proofs.lists.take_out.Given as goal

abbrev pub invariant-walking : goal.invariant-walking
invariant-walking l = record {
  taken : l.taken ++ with_key l.key l.objects ≡ with_key l.key l.fn.objects;
  left : l.left ++ without l.key l.objects ≡ without l.key l.fn.objects;
  len : length l.taken + length l.left + length l.objects ≡ length l.fn.objects;
}

abbrev pub decreases-walking : goal.decreases-walking
decreases-walking l = length l.objects
