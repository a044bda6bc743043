use Rattle.std.proofs.Common.{◌≡◌, ◌++◌, length, map, drop}
use Rattle.std.specs.List.{All}
use Rattle.outside_mem.specs.Named.{IsNew}
use Rattle.outside_mem.proofs.shelf.new_tiers.Given as goal

abbrev pub invariant-loop-worker : goal.invariant-loop-worker
invariant-loop-worker l = record {
  lens : map (λ tiers. length tiers.items) l.tiers.items ++ map (λ worker. length worker.items) (drop l.worker-index l.names) ≡ map (λ worker. length worker.items) l.names;
  new : All (λ tiers. All IsNew tiers.items) l.tiers.items;
}
