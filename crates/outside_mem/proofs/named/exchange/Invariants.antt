use Rattle.std.proofs.Common.{◌≡◌, ◌++◌, take, drop}
use Rattle.outside_mem.specs.Named.{item_under, with_item}
use Rattle.outside_mem.proofs.named.exchange.Given as goal

abbrev pub invariant-loop-one : goal.invariant-loop-one
invariant-loop-one g l = record {
  items : take l.one-index l.one-items ++ with_item l.name l.fn.item (drop l.one-index l.one-items) ≡ with_item l.name l.fn.item l.fn.items;
  found : item_under (drop l.one-index l.one-items) l.name ≡ item_under l.fn.items l.name;
  same : l.item ≡ l.fn.item;
}
