use Rattle.std.proofs.Common.{◌≡◌, ◌++◌, length, map, take, drop}
use Rattle.std.specs.String.{string_bytes}
use Rattle.outside_mem.specs.Named.{taken_tiers, with_tiers}
use Rattle.outside_mem.proofs.named.exchange_tiers.Given as goal

abbrev pub invariant-loop-at : goal.invariant-loop-at
invariant-loop-at l = record {
  lengths : map (λ tiers. length tiers.items) (drop l.at l.given) ≡ map (λ worker. length worker.items) (drop l.at l.names);
  stores : with_tiers (map (λ worker. map string_bytes worker.items) (drop l.at l.names)) (map (λ tiers. tiers.items) (drop l.at l.given)) l.stores ≡ with_tiers (map (λ worker. map string_bytes worker.items) l.names) (map (λ tiers. tiers.items) l.fn.given) l.fn.stores;
  taken : map (λ tiers. tiers.items) (take l.at l.given) ++ taken_tiers (map (λ worker. map string_bytes worker.items) (drop l.at l.names)) (map (λ tiers. tiers.items) (drop l.at l.given)) l.stores ≡ taken_tiers (map (λ worker. map string_bytes worker.items) l.names) (map (λ tiers. tiers.items) l.fn.given) l.fn.stores;
}
