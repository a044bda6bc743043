use Rattle.std.proofs.Common.{◌≡◌, [], ◌∷◌, length, sym, subst, arith}
use Rattle.std.proofs.lemmas.List.{with_items_is}
use Rattle.outside.specs.Shelf.{all_names, name_lists}
use Rattle.outside_mem.specs.Named.{HasPlaces, IsSameBut}
use Rattle.outside_mem.proofs.shelf.exchange_lent.Goals as goal

pub returns-clause-others : goal.returns-clause-others
returns-clause-others c =
    let len : length c.exchange_media.new.stores ≡ c.args.stores.now.len = omega arith in
    subst (λ stores. IsSameBut (all_names (name_lists c.args.names.now)) c.args.stores.now.items stores) (sym (with_items_is c.args.stores.now c.exchange_media.new.stores len)) (rw c.deref_mut.ensures.value at c.exchange_media.ensures.others)

pub returns-clause-places : goal.returns-clause-places
returns-clause-places c =
    let len : length c.exchange_media.new.stores ≡ c.args.stores.now.len = omega arith in
    subst (λ stores. HasPlaces stores (all_names (name_lists c.args.names.now))) (sym (with_items_is c.args.stores.now c.exchange_media.new.stores len)) c.exchange_media.ensures.places

pub returns-clause-areas_others : goal.returns-clause-areas_others
returns-clause-areas_others c =
    let len : length c.exchange_areas.new.areas ≡ c.args.areas.now.len = omega arith in
    subst (λ areas. IsSameBut ((name_lists c.args.names.now).journal ∷ []) c.args.areas.now.items areas) (sym (with_items_is c.args.areas.now c.exchange_areas.new.areas len)) (rw (c.deref_mut-2.ensures.value, c.deref.ensures) at c.exchange_areas.ensures.others)

pub returns-clause-area_places : goal.returns-clause-area_places
returns-clause-area_places c =
    let len : length c.exchange_areas.new.areas ≡ c.args.areas.now.len = omega arith in
    subst (λ areas. HasPlaces areas ((name_lists c.args.names.now).journal ∷ [])) (sym (with_items_is c.args.areas.now c.exchange_areas.new.areas len)) (rw c.deref.ensures at c.exchange_areas.ensures.places)
