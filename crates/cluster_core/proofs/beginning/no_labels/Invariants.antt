use Rattle.std.proofs.Common.{◌≡◌, length}
use Rattle.std.specs.List.{All}
use Rattle.cluster_core.specs.Begun.{HasNone}
use Rattle.cluster_core.proofs.beginning.no_labels.Given as goal

abbrev pub invariant-loop : goal.invariant-loop
invariant-loop g l = (length l.hands.items ≡ l.counter) × All HasNone l.hands.items
