-- Media that come under their names.
use Rattle.std.proofs.Common.{◌≡◌, ℕ, true, List, [], ◌∷◌, length, map, refl, sym, ap, ◌∙◌, subst}
use Rattle.std.specs.Prelude.{is_some}
use Rattle.std.proofs.lemmas.List.{length-map}
use Rattle.std.specs.List.{AllZip}
use Rattle.outside.specs.Shelf.{EachNamed, HasShape, NameLists, all_names, are_distinct}
use Rattle.outside.specs.declared.media.Media.{Media}
use Rattle.outside_mem.specs.Named.{HasPlaces, IsSameBut, IsUnder, item_under, taken, taken_tiers, with_stores, with_tiers}
use Rattle.outside_mem.specs.declared.named.Named.{Named}
use Rattle.outside_mem.specs.declared.disk.MemDisk.{MemDisk}
use Rattle.outside_mem.specs.declared.store.MemObjects.{MemObjects}
use Rattle.outside_mem.proofs.NamedStores.{Lengths, given_tiers_under, others_under_tiers, some_with_tiers, taken_tiers_under}

-- a relation of lists in place of what has them
pub zip_of : {A B V : Type 0} (R : List A → List B → Type 0) (items : V → List B) (xs : List (List A)) (vs : List V) → AllZip R xs (map items vs) → AllZip (λ x v. R x (items v)) xs vs
zip_of R items [] [] z = tt
zip_of R items [] (v ∷ vs) z = absurd z
zip_of R items (x ∷ xs) [] z = absurd z
zip_of R items (x ∷ xs) (v ∷ vs) z = (z.0, zip_of R items xs vs z.1)

lengths_of : {B V : Type 0} (items : V → List B) (vs : List V) → map length (map items vs) ≡ map (λ v. length (items v)) vs
lengths_of items [] = refl
lengths_of items (v ∷ vs) = ap (λ rest. length (items v) ∷ rest) (lengths_of items vs)

-- the stores and the tiers of each worker as one list, of media as long as their names
lengths_joined : (names : NameLists) (media : Media MemDisk MemObjects) → HasShape names media → Lengths (media.stores.items ∷ map (λ tiers. tiers.items) media.tiers.items) (names.stores ∷ names.tiers)
lengths_joined names media shape = λ i. shape.stores i ∷ (lengths_of (λ tiers. tiers.items) media.tiers.items ∙ shape.tiers) i

-- what the media took the places of was under the names
pub media_taken : (names : NameLists) (old new : Media MemDisk MemObjects) (stores : List (Named MemObjects)) → HasShape names old → are_distinct (all_names names) ≡ true → HasPlaces stores (all_names names) → new.stores.items ≡ taken names.stores old.stores.items stores → map (λ tiers. tiers.items) new.tiers.items ≡ taken_tiers names.tiers (map (λ tiers. tiers.items) old.tiers.items) (with_stores names.stores old.stores.items stores) → EachNamed (IsUnder stores) names new
media_taken names old new stores shape d has e f =
    let all = taken_tiers_under (names.stores ∷ names.tiers) (old.stores.items ∷ map (λ tiers. tiers.items) old.tiers.items) stores (lengths_joined names old shape) d has in
    record {
      stores = subst (λ found. AllZip (IsUnder stores) names.stores found) (sym e) all.0;
      tiers = zip_of (AllZip (IsUnder stores)) (λ tiers. tiers.items) names.tiers new.tiers.items (subst (λ found. AllZip (AllZip (IsUnder stores)) names.tiers found) (sym f) all.1);
    }

-- the media are under the names afterwards
pub media_given : (names : NameLists) (media : Media MemDisk MemObjects) (stores new : List (Named MemObjects)) → HasShape names media → are_distinct (all_names names) ≡ true → HasPlaces stores (all_names names) → new ≡ with_tiers names.tiers (map (λ tiers. tiers.items) media.tiers.items) (with_stores names.stores media.stores.items stores) → EachNamed (IsUnder new) names media
media_given names media stores new shape d has e =
    let all = given_tiers_under (names.stores ∷ names.tiers) (media.stores.items ∷ map (λ tiers. tiers.items) media.tiers.items) stores (lengths_joined names media shape) d has in
    let under = subst (λ stores. AllZip (AllZip (IsUnder stores)) (names.stores ∷ names.tiers) (media.stores.items ∷ map (λ tiers. tiers.items) media.tiers.items)) (sym e) all in
    record {
      stores = under.0;
      tiers = zip_of (AllZip (IsUnder new)) (λ tiers. tiers.items) names.tiers media.tiers.items under.1;
    }

pub media_others : (names : NameLists) (media : Media MemDisk MemObjects) (stores new : List (Named MemObjects)) → new ≡ with_tiers names.tiers (map (λ tiers. tiers.items) media.tiers.items) (with_stores names.stores media.stores.items stores) → IsSameBut (all_names names) stores new
media_others names media stores new e = λ name h. ap (λ stores. item_under stores name) e ∙ others_under_tiers (names.stores ∷ names.tiers) (media.stores.items ∷ map (λ tiers. tiers.items) media.tiers.items) stores name h

pub media_places : (names : NameLists) (media : Media MemDisk MemObjects) (stores new : List (Named MemObjects)) (of : List (List ℕ)) → HasPlaces stores of → new ≡ with_tiers names.tiers (map (λ tiers. tiers.items) media.tiers.items) (with_stores names.stores media.stores.items stores) → HasPlaces new of
media_places names media stores new of has e = λ name h. ap (λ stores. is_some (item_under stores name)) e ∙ some_with_tiers (names.stores ∷ names.tiers) (media.stores.items ∷ map (λ tiers. tiers.items) media.tiers.items) stores name ∙ has name h

pub named_lengths : {A B W : Type 0} (text : A → B) (items : W → List A) (workers : List W) → map length (map (λ worker. map text (items worker)) workers) ≡ map (λ worker. length (items worker)) workers
named_lengths text items [] = refl
named_lengths text items (worker ∷ workers) = λ i. length-map (items worker) text i ∷ named_lengths text items workers i
