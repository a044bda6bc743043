use Rattle.std.proofs.Common.{◌≡◌, ◌++◌, map, take, drop}
use Rattle.std.specs.String.{string_bytes}
use Rattle.outside_mem.specs.Named.{taken, with_stores}
use Rattle.outside_mem.proofs.named.exchange_each.Given as goal

abbrev pub invariant-loop-at : goal.invariant-loop-at
invariant-loop-at l = record {
  stores : with_stores (map string_bytes (drop l.at l.names)) (drop l.at l.given) l.stores ≡ with_stores (map string_bytes l.names) l.fn.given l.fn.stores;
  taken : take l.at l.given ++ taken (map string_bytes (drop l.at l.names)) (drop l.at l.given) l.stores ≡ taken (map string_bytes l.names) l.fn.given l.fn.stores;
}
