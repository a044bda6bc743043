-- Stores by name: what is under a name after stores came under names.
use Rattle.std.proofs.Common.{◌≡◌, ℕ, Bool, true, false, List, [], ◌∷◌, length, map, refl, sym, ◌∙◌, arith}
use Rattle.std.specs.Prelude.{not, Some, None, IsSome, is_some, Option}
use Rattle.std.specs.List.{AllZip}
use Rattle.std.specs.Str.{bytes_eq}
use Rattle.outside.specs.Shelf.{are_distinct, is_among, tier_names}
use Rattle.outside.proofs.NamesApart.{apart, among_back, among_front, among-append, either_false, first_among, later_among, name_turned, not_true, parts_apart}
use Rattle.outside.proofs.Deciding.{both_true}
use Rattle.outside_mem.specs.Named.{HasPlaces, IsUnder, found_or, item_under, taken, taken_tiers, with_item, with_stores, with_tiers}
use Rattle.outside_mem.specs.declared.named.Named.{Named}
use Rattle.outside_mem.specs.declared.store.MemObjects.{MemObjects}
use Rattle.outside_mem.proofs.NamedItems.{other_under, own_under, some_with_item}

-- ---- the stores of some names

pub others_under : (names : List (List ℕ)) (given : List MemObjects) (stores : List (Named MemObjects)) (other : List ℕ) → is_among names other ≡ false → item_under (with_stores names given stores) other ≡ item_under stores other
others_under [] given stores other h = refl
others_under (name ∷ names) [] stores other h = refl
others_under (name ∷ names) (store ∷ given) stores other h =
    let parts = either_false (bytes_eq other name) (is_among names other) h in
    others_under names given (with_item name store stores) other parts.1 ∙ other_under name other store stores (name_turned other name false parts.0)

pub some_with_stores : (names : List (List ℕ)) (given : List MemObjects) (stores : List (Named MemObjects)) (other : List ℕ) → is_some (item_under (with_stores names given stores) other) ≡ is_some (item_under stores other)
some_with_stores [] given stores other = refl
some_with_stores (name ∷ names) [] stores other = refl
some_with_stores (name ∷ names) (store ∷ given) stores other = some_with_stores names given (with_item name store stores) other ∙ some_with_item name other store stores

pub places_kept : (names of : List (List ℕ)) (given : List MemObjects) (stores : List (Named MemObjects)) → HasPlaces stores of → HasPlaces (with_stores names given stores) of
places_kept names of given stores has = λ name h. some_with_stores names given stores name ∙ has name h

places_first : (name : List ℕ) (names : List (List ℕ)) (stores : List (Named MemObjects)) → HasPlaces stores (name ∷ names) → IsSome (item_under stores name)
places_first name names stores has = has name (first_among name names)

places_next : (name : List ℕ) (names : List (List ℕ)) (store : MemObjects) (stores : List (Named MemObjects)) → HasPlaces stores (name ∷ names) → HasPlaces (with_item name store stores) names
places_next name names store stores has = λ other h. some_with_item name other store stores ∙ has other (later_among name other names h)

-- what is the same under each name may stand for what was there
pub zip_agree : (f g : List ℕ → Option MemObjects) (names : List (List ℕ)) (found : List MemObjects) → ((name : List ℕ) → is_among names name ≡ true → f name ≡ g name) → AllZip (λ name store. f name ≡ Some store) names found → AllZip (λ name store. g name ≡ Some store) names found
zip_agree f g [] [] agree z = tt
zip_agree f g [] (store ∷ found) agree z = absurd z
zip_agree f g (name ∷ names) [] agree z = absurd z
zip_agree f g (name ∷ names) (store ∷ found) agree z = (sym (agree name (first_among name names)) ∙ z.0, zip_agree f g names found (λ other h. agree other (later_among name other names h)) z.1)

found_some : (store : MemObjects) (found : Option MemObjects) → IsSome found → found ≡ Some (found_or store found)
found_some store None h = cc
found_some store (Some found) h = refl

record Distinct (name : List ℕ) (names : List (List ℕ)) : Type 0 where
  first : is_among names name ≡ false
  rest : are_distinct names ≡ true

distinct_parts : (name : List ℕ) (names : List (List ℕ)) → are_distinct (name ∷ names) ≡ true → Distinct name names
distinct_parts name names h =
    let parts = both_true (not (is_among names name)) (are_distinct names) h in
    record { first = not_true _ parts.0; rest = parts.1 }

pub taken_under : (names : List (List ℕ)) (given : List MemObjects) (stores : List (Named MemObjects)) → length given ≡ length names → are_distinct names ≡ true → HasPlaces stores names → AllZip (IsUnder stores) names (taken names given stores)
taken_under [] [] stores e d has = tt
taken_under [] (store ∷ given) stores e d has = absurd (omega (arith, e))
taken_under (name ∷ names) [] stores e d has = absurd (omega (arith, e))
taken_under (name ∷ names) (store ∷ given) stores e d has =
    let parts = distinct_parts name names d in
    let later = taken_under names given (with_item name store stores) (omega (arith, e)) parts.rest (places_next name names store stores has) in
    (found_some store _ (places_first name names stores has), zip_agree (item_under (with_item name store stores)) (item_under stores) names (taken names given (with_item name store stores)) (λ other h. other_under name other store stores (apart name other names parts.first h)) later)

pub given_under : (names : List (List ℕ)) (given : List MemObjects) (stores : List (Named MemObjects)) → length given ≡ length names → are_distinct names ≡ true → HasPlaces stores names → AllZip (IsUnder (with_stores names given stores)) names given
given_under [] [] stores e d has = tt
given_under [] (store ∷ given) stores e d has = absurd (omega (arith, e))
given_under (name ∷ names) [] stores e d has = absurd (omega (arith, e))
given_under (name ∷ names) (store ∷ given) stores e d has =
    let parts = distinct_parts name names d in
    let next = with_item name store stores in
    (others_under names given next name parts.first ∙ own_under name store stores (places_first name names stores has), given_under names given next (omega (arith, e)) parts.rest (places_next name names store stores has))

-- ---- the tiers of all workers

abbrev pub Lengths : {A B : Type 0} → List (List A) → List (List B) → Type 0
Lengths given workers = map length given ≡ map length workers

pub others_under_tiers : (workers : List (List (List ℕ))) (given : List (List MemObjects)) (stores : List (Named MemObjects)) (other : List ℕ) → is_among (tier_names workers) other ≡ false → item_under (with_tiers workers given stores) other ≡ item_under stores other
others_under_tiers [] given stores other h = refl
others_under_tiers (worker ∷ workers) [] stores other h = refl
others_under_tiers (worker ∷ workers) (tiers ∷ given) stores other h =
    let parts = either_false (is_among worker other) (is_among (tier_names workers) other) (sym (among-append worker (tier_names workers) other) ∙ h) in
    others_under_tiers workers given (with_stores worker tiers stores) other parts.1 ∙ others_under worker tiers stores other parts.0

pub some_with_tiers : (workers : List (List (List ℕ))) (given : List (List MemObjects)) (stores : List (Named MemObjects)) (other : List ℕ) → is_some (item_under (with_tiers workers given stores) other) ≡ is_some (item_under stores other)
some_with_tiers [] given stores other = refl
some_with_tiers (worker ∷ workers) [] stores other = refl
some_with_tiers (worker ∷ workers) (tiers ∷ given) stores other = some_with_tiers workers given (with_stores worker tiers stores) other ∙ some_with_stores worker tiers stores other

tiers_agree : (f g : List ℕ → Option MemObjects) (workers : List (List (List ℕ))) (found : List (List MemObjects)) → ((name : List ℕ) → is_among (tier_names workers) name ≡ true → f name ≡ g name) → AllZip (λ worker tiers. AllZip (λ name store. f name ≡ Some store) worker tiers) workers found → AllZip (λ worker tiers. AllZip (λ name store. g name ≡ Some store) worker tiers) workers found
tiers_agree f g [] [] agree z = tt
tiers_agree f g [] (tiers ∷ found) agree z = absurd z
tiers_agree f g (worker ∷ workers) [] agree z = absurd z
tiers_agree f g (worker ∷ workers) (tiers ∷ found) agree z = (zip_agree f g worker tiers (λ name h. agree name (among_front worker (tier_names workers) name h)) z.0, tiers_agree f g workers found (λ name h. agree name (among_back worker (tier_names workers) name h)) z.1)

pub taken_tiers_under : (workers : List (List (List ℕ))) (given : List (List MemObjects)) (stores : List (Named MemObjects)) → Lengths given workers → are_distinct (tier_names workers) ≡ true → HasPlaces stores (tier_names workers) → AllZip (AllZip (IsUnder stores)) workers (taken_tiers workers given stores)
taken_tiers_under [] [] stores e d has = tt
taken_tiers_under [] (tiers ∷ given) stores e d has = cc
taken_tiers_under (worker ∷ workers) [] stores e d has = cc
taken_tiers_under (worker ∷ workers) (tiers ∷ given) stores e d has =
    let parts = parts_apart worker (tier_names workers) d in
    let first : length tiers ≡ length worker = cc in
    let rest : map length given ≡ map length workers = cc in
    let next = with_stores worker tiers stores in
    let later = taken_tiers_under workers given next rest parts.back (places_kept worker (tier_names workers) tiers stores (λ name h. has name (among_back worker (tier_names workers) name h))) in
    (taken_under worker tiers stores first parts.front (λ name h. has name (among_front worker (tier_names workers) name h)), tiers_agree (item_under next) (item_under stores) workers (taken_tiers workers given next) (λ name h. others_under worker tiers stores name (parts.across name h)) later)

pub given_tiers_under : (workers : List (List (List ℕ))) (given : List (List MemObjects)) (stores : List (Named MemObjects)) → Lengths given workers → are_distinct (tier_names workers) ≡ true → HasPlaces stores (tier_names workers) → AllZip (AllZip (IsUnder (with_tiers workers given stores))) workers given
given_tiers_under [] [] stores e d has = tt
given_tiers_under [] (tiers ∷ given) stores e d has = cc
given_tiers_under (worker ∷ workers) [] stores e d has = cc
given_tiers_under (worker ∷ workers) (tiers ∷ given) stores e d has =
    let parts = parts_apart worker (tier_names workers) d in
    let first : length tiers ≡ length worker = cc in
    let rest : map length given ≡ map length workers = cc in
    let next = with_stores worker tiers stores in
    let own = given_under worker tiers stores first parts.front (λ name h. has name (among_front worker (tier_names workers) name h)) in
    let out : (name : List ℕ) → is_among worker name ≡ true → is_among (tier_names workers) name ≡ false = λ name h. away (is_among (tier_names workers) name) (is_among worker name) (parts.across name) h in
    (zip_agree (item_under next) (item_under (with_tiers workers given next)) worker tiers (λ name h. sym (others_under_tiers workers given next name (out name h))) own, given_tiers_under workers given next rest parts.back (places_kept worker (tier_names workers) tiers stores (λ name h. has name (among_back worker (tier_names workers) name h))))
  where
    away : (a b : Bool) → (a ≡ true → b ≡ false) → b ≡ true → a ≡ false
    away true b k h = let no_b = k refl in cc
    away false b k h = refl
