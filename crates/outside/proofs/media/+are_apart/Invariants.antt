use Rattle.std.proofs.Common.{◌+◌, length}
use Rattle.std.specs.List.{sum_by}
use Rattle.outside.proofs.media.+are_apart.Given as goal

abbrev pub decreases-are_apart : goal.decreases-are_apart
decreases-are_apart l = length l.names.now + sum_by (λ worker. length worker.items + 1) l.tiers.now
