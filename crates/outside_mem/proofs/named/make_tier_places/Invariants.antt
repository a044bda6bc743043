use Rattle.std.proofs.Common.{map, drop}
use Rattle.std.specs.String.{string_bytes}
use Rattle.outside.specs.Shelf.{tier_names}
use Rattle.outside_mem.specs.Named.{GetsPlaces, IsNew}
use Rattle.outside_mem.proofs.Places.{PlacesBut}
use Rattle.outside_mem.proofs.named.make_tier_places.Given as goal

abbrev pub invariant-loop-worker : goal.invariant-loop-worker
invariant-loop-worker l = record {
  places : PlacesBut (tier_names (map (λ worker. map string_bytes worker.items) (drop l.worker-index l.names))) l.stores.items (tier_names (map (λ worker. map string_bytes worker.items) l.names));
  made : GetsPlaces IsNew (tier_names (map (λ worker. map string_bytes worker.items) l.names)) l.fn.stores.items l.stores.items;
}
