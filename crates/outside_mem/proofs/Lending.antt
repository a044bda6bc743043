-- What stores that are lent and taken back tell, and what a shelf holds meanwhile.
use Rattle.std.proofs.Common.{◌≡◌, ℕ, true, false, List, [], ◌∷◌, ◌⊎◌, inl, inr, refl, sym, ap, ◌∙◌, subst}
use Rattle.std.specs.Prelude.{IfSome, IsSomeAnd, None, Option, Some, option_map}
use Rattle.std.specs.List.{AllZip}
use Rattle.outside.specs.Keys.{KeyNames}
use Rattle.outside.specs.Shelf.{EachNamed, KeepsBut, LacksEach, NameLists, TellsHeld, all_names, is_among, name_lists, tier_names}
use Rattle.outside.specs.declared.media.Media.{Media}
use Rattle.outside.specs.declared.media.MediaNames.{MediaNames}
use Rattle.outside.proofs.NamesApart.{among-append, either_true, name_same}
use Rattle.outside_mem.specs.Named.{GetsPlaces, IsFound, IsNew, IsSameBut, IsUnder, contents_of, shelf_of, item_under, told_of}
use Rattle.outside_mem.specs.Stored.{held}
use Rattle.outside_mem.specs.declared.named.Named.{Named}
use Rattle.outside_mem.specs.declared.disk.MemDisk.{MemDisk}
use Rattle.outside_mem.specs.declared.store.MemObjects.{MemObjects}

-- ---- relations of names and stores

zip_map : {A B : Type 0} (R Q : A → B → Type 0) (xs : List A) (ys : List B) → ((x : A) (y : B) → R x y → Q x y) → AllZip R xs ys → AllZip Q xs ys
zip_map R Q [] [] f z = tt
zip_map R Q [] (y ∷ ys) f z = absurd z
zip_map R Q (x ∷ xs) [] f z = absurd z
zip_map R Q (x ∷ xs) (y ∷ ys) f z = (f x y z.0, zip_map R Q xs ys f z.1)

pub each_map : {D S : Type 0} (R Q : List ℕ → S → Type 0) (names : NameLists) (media : Media D S) → ((name : List ℕ) (store : S) → R name store → Q name store) → EachNamed R names media → EachNamed Q names media
each_map R Q names media f each = record {
  stores = zip_map R Q names.stores media.stores.items f each.stores;
  tiers = zip_map (λ worker tiers. AllZip R worker tiers.items) (λ worker tiers. AllZip Q worker tiers.items) names.tiers media.tiers.items (λ worker tiers. zip_map R Q worker tiers.items f) each.tiers;
}

-- ---- what stores tell

-- a store under a name tells what is held there
pub tells_under : (stores : List (Named MemObjects)) (names : NameLists) (media : Media MemDisk MemObjects) → EachNamed (IsUnder stores) names media → EachNamed (TellsHeld told_of (Some (shelf_of stores))) names media
tells_under stores names media each = each_map (IsUnder stores) (TellsHeld told_of (Some (shelf_of stores))) names media (λ name store e key. sym (ap (λ found. contents_of found key) e)) each

found_tells : (found : Option MemObjects) (store : MemObjects) (key : KeyNames) → IsFound found store → held store.objects key ≡ contents_of found key
found_tells None store key new = ap (λ objects. held objects key) new.objects
found_tells (Some found) store key e = ap (λ store. held store.objects key) e

-- the store that was found under a name, or a new one, tells what is held there
pub tells_found : (stores : List (Named MemObjects)) (names : NameLists) (media : Media MemDisk MemObjects) → EachNamed (λ name. IsFound (item_under stores name)) names media → EachNamed (TellsHeld told_of (Some (shelf_of stores))) names media
tells_found stores names media each = each_map (λ name. IsFound (item_under stores name)) (TellsHeld told_of (Some (shelf_of stores))) names media (λ name store found key. found_tells (item_under stores name) store key found) each

found_step : (old mid : Option MemObjects) (store : MemObjects) → mid ≡ Some store → (mid ≡ old) ⊎ ((old ≡ None) × IsSomeAnd mid IsNew) → IsFound old store
found_step old mid store e (inl f) = subst (λ found. IsFound found store) (sym e ∙ f) refl
found_step old mid store e (inr p) = subst (λ found. IsFound found store) (sym p.0) (subst (λ found. IsSomeAnd found IsNew) e p.1)

pub place_step : {T : Type 0} (P : T → Type 0) (names : List (List ℕ)) (old new : List (Named T)) (name : List ℕ) → GetsPlaces P names old new → (item_under new name ≡ item_under old name) ⊎ ((item_under old name ≡ None) × IsSomeAnd (item_under new name) P)
place_step P names old new name gets = elim (gets name) [ inl e ↦ inl e | inr p ↦ inr (p.1, p.2) ]

-- the stores under names, of which some got new ones before, are those that were found, or new
pub found_under : (of : List (List ℕ)) (old mid : List (Named MemObjects)) (names : NameLists) (media : Media MemDisk MemObjects) → GetsPlaces IsNew of old mid → EachNamed (IsUnder mid) names media → EachNamed (λ name. IsFound (item_under old name)) names media
found_under of old mid names media gets each = each_map (IsUnder mid) (λ name. IsFound (item_under old name)) names media (λ name store e. found_step (item_under old name) (item_under mid name) store e (place_step IsNew of old mid name gets)) each

-- ---- what a shelf holds

-- places change nothing of what is held
place_holds : (old new : Option MemObjects) (key : KeyNames) → (new ≡ old) ⊎ ((old ≡ None) × IsSomeAnd new IsNew) → contents_of new key ≡ contents_of old key
place_holds old new key (inl e) = ap (λ found. contents_of found key) e
place_holds old None key (inr p) = absurd p.1
place_holds old (Some store) key (inr p) = ap (λ objects. held objects key) p.1.objects ∙ sym (ap (λ found. contents_of found key) p.0)

pub places_hold : (names : List (List ℕ)) (old new : List (Named MemObjects)) → GetsPlaces IsNew names old new → shelf_of new ≡ shelf_of old
places_hold names old new gets = λ i name key. place_holds (item_under old name) (item_under new name) key (place_step IsNew names old new name gets) i

-- what is the same but for some names, after these got places
unmade : {T : Type 0} (P : T → Type 0) (names : List (List ℕ)) (old mid : List (Named T)) (name : List ℕ) → is_among names name ≡ false → (item_under mid name ≡ item_under old name) ⊎ ((is_among names name ≡ true) × (item_under old name ≡ None) × IsSomeAnd (item_under mid name) P) → item_under mid name ≡ item_under old name
unmade P names old mid name h (inl e) = e
unmade P names old mid name h (inr p) = let among = p.0 in cc

pub same_since : {T : Type 0} (P : T → Type 0) (names : List (List ℕ)) (old mid new : List (Named T)) → GetsPlaces P names old mid → IsSameBut names mid new → IsSameBut names old new
same_since P names old mid new gets same = λ name h. same name h ∙ unmade P names old mid name h (gets name)

pub keeps_same : (names : List (List ℕ)) (old new : List (Named MemObjects)) → IsSameBut names old new → KeepsBut names (Some (shelf_of old)) (Some (shelf_of new))
keeps_same names old new same = λ name h key. ap (λ found. contents_of found key) (same name h)

new_holds : (stores : List (Named MemObjects)) (name : List ℕ) (store : MemObjects) (key : KeyNames) → IsUnder stores name store → IsNew store → shelf_of stores name key ≡ None
new_holds stores name store key e new = ap (λ found. contents_of found key) e ∙ ap (λ objects. held objects key) new.objects

lacks_zip : (stores : List (Named MemObjects)) (names : List (List ℕ)) (found : List MemObjects) (name : List ℕ) (key : KeyNames) → AllZip (IsUnder stores) names found → AllZip (λ name. IsNew) names found → is_among names name ≡ true → shelf_of stores name key ≡ None
lacks_zip stores [] [] name key under new h = cc
lacks_zip stores [] (store ∷ found) name key under new h = absurd under
lacks_zip stores (one ∷ names) [] name key under new h = absurd under
lacks_zip stores (one ∷ names) (store ∷ found) name key under new h = elim (either_true _ (is_among names name) h) [ inl e ↦ ap (λ name. shelf_of stores name key) (name_same name one e) ∙ new_holds stores one store key under.0 new.0 | inr k ↦ lacks_zip stores names found name key under.1 new.1 k ]

lacks_tiers : {V : Type 0} (items : V → List MemObjects) (stores : List (Named MemObjects)) (workers : List (List (List ℕ))) (tiers : List V) (name : List ℕ) (key : KeyNames) → AllZip (λ worker tiers. AllZip (IsUnder stores) worker (items tiers)) workers tiers → AllZip (λ worker tiers. AllZip (λ name. IsNew) worker (items tiers)) workers tiers → is_among (tier_names workers) name ≡ true → shelf_of stores name key ≡ None
lacks_tiers items stores [] [] name key under new h = cc
lacks_tiers items stores [] (own ∷ tiers) name key under new h = absurd under
lacks_tiers items stores (worker ∷ workers) [] name key under new h = absurd under
lacks_tiers items stores (worker ∷ workers) (own ∷ tiers) name key under new h = elim (either_true (is_among worker name) (is_among (tier_names workers) name) (sym (among-append worker (tier_names workers) name) ∙ h)) [ inl k ↦ lacks_zip stores worker (items own) name key under.0 new.0 k | inr k ↦ lacks_tiers items stores workers tiers name key under.1 new.1 k ]

-- nothing is held under names with new stores
pub lacks_new : (stores : List (Named MemObjects)) (names : NameLists) (media : Media MemDisk MemObjects) → EachNamed (IsUnder stores) names media → EachNamed (λ name. IsNew) names media → LacksEach (all_names names) (Some (shelf_of stores))
lacks_new stores names media under new = λ name h key. elim (either_true (is_among names.stores name) (is_among (tier_names names.tiers) name) (sym (among-append names.stores (tier_names names.tiers) name) ∙ h)) [ inl k ↦ lacks_zip stores names.stores media.stores.items name key under.stores new.stores k | inr k ↦ lacks_tiers (λ tiers. tiers.items) stores names.tiers media.tiers.items name key under.tiers new.tiers k ]

-- media that were taken back tell what the shelf holds
pub told_back : (lent : Option MediaNames) (names : MediaNames) (media : Media MemDisk MemObjects) (stores : List (Named MemObjects)) → Some names ≡ lent → EachNamed (IsUnder stores) (name_lists names) media → IfSome (option_map name_lists lent) (λ names. EachNamed (TellsHeld told_of (Some (shelf_of stores))) names media)
told_back lent names media stores e each = subst (λ lent. IfSome (option_map name_lists lent) (λ names. EachNamed (TellsHeld told_of (Some (shelf_of stores))) names media)) e (tells_under stores (name_lists names) media each)
