use Rattle.std.proofs.Common.{◌≡◌, ◌-◌, not}
use Rattle.std.specs.List.{list_any, range_with_len}
use Rattle.cluster_core.specs.Shown.{first_has, lacks_here}
use Rattle.cluster_core.proofs.stating.Core+D+O+O+Reader+O+Writer.lacks_some.Given as goal

-- the blocks to come decide
abbrev pub invariant-loop-block : goal.invariant-loop-block
invariant-loop-block g l = list_any (λ i. not (first_has l.self.workers.items l.file i)) (range_with_len l.block (l.block-end - l.block)) ≡ lacks_here l.self.workers.items l.self.block l.file l.len
