use Rattle.std.proofs.Common.{length}
use Rattle.outside.proofs.key.+order_of_names.Given as goal

abbrev pub decreases-order_of_names : goal.decreases-order_of_names
decreases-order_of_names l = length l.names.now
