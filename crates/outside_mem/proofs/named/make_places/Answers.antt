use Rattle.std.proofs.Common.{◌≡◌, ◌∙◌, ◌+◌, [], ◌∷◌, true, map, drop, get_or, sym, ap, subst}
use Rattle.std.specs.String.{string_bytes}
use Rattle.std.proofs.lemmas.List.{drop_more}
use Rattle.outside.specs.Shelf.{is_among}
use Rattle.outside_mem.proofs.Places.{PlacesBut, among_at, gets_more, one_among, one_place, places_on}
use Rattle.outside_mem.proofs.named.make_places.Goals as goal

pub returns-in_err-make_place-clause-made : goal.returns-in_err-make_place-clause-made
returns-in_err-make_place-clause-made c =
    let names = map string_bytes c.args.names.now in
    let name = c.deref.result.now in
    let read : string_bytes (get_or c.args.names.now c.loop-name.name-index c.name-item.result) ≡ name = ap string_bytes (sym c.name-item.is) ∙ sym c.deref.ensures in
    let among = subst (λ x. is_among names x ≡ true) read (among_at string_bytes c.args.names.now c.loop-name.name-index c.name-item.result c.loop-name-test.true) in
    gets_more names (name ∷ []) c.args.stores.now.items c.loop-name.stores.items c.make_place.new.stores.items (one_among name names among) c.loop-name.invariant.made c.in_err-make_place.ensures.made

pub loop-name-preserved : goal.loop-name-preserved
loop-name-preserved c =
    let names = map string_bytes c.args.names.now in
    let name = c.deref.result.now in
    let left = map string_bytes (drop (c.loop-name.name-index + 1) c.args.names.now) in
    let read : string_bytes (get_or c.args.names.now c.loop-name.name-index c.name-item.result) ≡ name = ap string_bytes (sym c.name-item.is) ∙ sym c.deref.ensures in
    let among = subst (λ x. is_among names x ≡ true) read (among_at string_bytes c.args.names.now c.loop-name.name-index c.name-item.result c.loop-name-test.true) in
    let next = ap (map string_bytes) (drop_more c.args.names.now c.loop-name.name-index c.name-item.result c.loop-name-test.true) ∙ ap (λ x. x ∷ left) read in
    record {
      places = places_on (name ∷ []) left names (name ∷ []) c.loop-name.stores.items c.make_place.new.stores.items (subst (λ left. PlacesBut left c.loop-name.stores.items names) next c.loop-name.invariant.places) c.in_ok-make_place.ensures.made (one_place name c.make_place.new.stores.items c.in_ok-make_place.ensures.place);
      made = gets_more names (name ∷ []) c.args.stores.now.items c.loop-name.stores.items c.make_place.new.stores.items (one_among name names among) c.loop-name.invariant.made c.in_ok-make_place.ensures.made;
    }
