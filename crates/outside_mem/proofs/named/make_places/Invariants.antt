use Rattle.std.proofs.Common.{map, drop}
use Rattle.std.specs.String.{string_bytes}
use Rattle.outside_mem.specs.Named.{GetsPlaces, IsNew}
use Rattle.outside_mem.proofs.Places.{PlacesBut}
use Rattle.outside_mem.proofs.named.make_places.Given as goal

abbrev pub invariant-loop-name : goal.invariant-loop-name
invariant-loop-name l = record {
  places : PlacesBut (map string_bytes (drop l.name-index l.names)) l.stores.items (map string_bytes l.names);
  made : GetsPlaces IsNew (map string_bytes l.names) l.fn.stores.items l.stores.items;
}
