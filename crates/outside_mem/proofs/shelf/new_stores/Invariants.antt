use Rattle.std.proofs.Common.{◌≡◌, length}
use Rattle.std.specs.List.{All}
use Rattle.outside_mem.specs.Named.{IsNew}
use Rattle.outside_mem.proofs.shelf.new_stores.Given as goal

abbrev pub invariant-loop : goal.invariant-loop
invariant-loop l = record {
  len : length l.stores.items ≡ l.counter;
  new : All IsNew l.stores.items;
}
