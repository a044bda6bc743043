use Rattle.std.proofs.Common.{◌≡◌, drop, map}
use Rattle.std.specs.String.{string_bytes}
use Rattle.outside.specs.Shelf.{is_among, tier_names}
use Rattle.outside.proofs.media.is_of_a_tier.Given as goal

abbrev pub invariant-loop-worker : goal.invariant-loop-worker
invariant-loop-worker l = is_among (tier_names (map (λ worker. map string_bytes worker.items) (drop l.worker-index l.tiers))) l.name ≡ is_among (tier_names (map (λ worker. map string_bytes worker.items) l.tiers)) l.name
