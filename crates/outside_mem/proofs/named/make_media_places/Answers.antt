use Rattle.std.proofs.Common.{ℕ, List}
use Rattle.outside.specs.Shelf.{all_names, name_lists, tier_names}
use Rattle.outside.proofs.NamesApart.{among_back, among_front}
use Rattle.outside_mem.proofs.Places.{gets_more, gets_none}
use Rattle.outside_mem.proofs.named.make_media_places.Goals as goal

pub returns-in_err-make_places-clause-made : goal.returns-in_err-make_places-clause-made
returns-in_err-make_places-clause-made c =
    let names = name_lists c.args.names.now in
    let stores = c.args.stores.now.items in
    gets_more (all_names names) names.stores stores stores c.make_places.new.stores.items (λ (name : List ℕ). among_front names.stores (tier_names names.tiers) name) (gets_none (all_names names) stores) (rw c.deref.ensures.value at c.in_err-make_places.ensures.made)

pub returns-clause-made : goal.returns-clause-made
returns-clause-made c =
    let names = name_lists c.args.names.now in
    let stores = c.args.stores.now.items in
    let first = gets_more (all_names names) names.stores stores stores c.make_places.new.stores.items (λ (name : List ℕ). among_front names.stores (tier_names names.tiers) name) (gets_none (all_names names) stores) (rw c.deref.ensures.value at c.in_ok-make_places.ensures.made) in
    gets_more (all_names names) (tier_names names.tiers) stores c.make_places.new.stores.items c.make_tier_places.new.stores.items (λ (name : List ℕ). among_back names.stores (tier_names names.tiers) name) first (rw c.deref-2.ensures.value at c.make_tier_places.ensures.made)
