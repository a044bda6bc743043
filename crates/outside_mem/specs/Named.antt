-- What stands under names, and stores in memory by name.
use Rattle.std.specs.Prelude.{ℕ, ◌≡◌, ◌⊎◌, IsSome, IsSomeAnd, IsTrue, false, List, [], ◌∷◌, Option, Some, None, if◌then◌else◌}
use Rattle.std.specs.Str.{bytes_eq}
use Rattle.std.specs.String.{string_bytes}
use Rattle.outside.specs.Contents.{Contents}
use Rattle.outside.specs.Shelf.{Shelf, all_names, is_among, name_lists}
use Rattle.outside.specs.declared.media.MediaNames.{MediaNames}
use Rattle.outside_mem.specs.Calls.{IsFresh}
use Rattle.outside_mem.specs.Stored.{held}
use Rattle.outside_mem.specs.declared.named.Named.{Named}
use Rattle.outside_mem.specs.declared.store.MemObjects.{MemObjects}

-- ---- what is under names

-- the first of this name
abbrev pub item_under : {T : Type 0} → List (Named T) → List ℕ → Option T
item_under [] name = None
item_under (one ∷ more) name = if bytes_eq (string_bytes one.name) name then Some one.item else item_under more name

-- what a store holds, or nothing where there is none
abbrev pub contents_of : Option MemObjects → Contents
contents_of None key = None
contents_of (Some store) key = held store.objects key

-- what is held under each name
abbrev pub shelf_of : List (Named MemObjects) → Shelf
shelf_of stores name = contents_of (item_under stores name)

-- what a store tells
abbrev pub told_of : MemObjects → Option Contents
told_of store = Some (held store.objects)

-- this is what stands under the name
abbrev pub IsUnder : {T : Type 0} → List (Named T) → List ℕ → T → Type 0
IsUnder items name item = item_under items name ≡ Some item

-- a store holds nothing, no call of it is to fail, and there were none
pub record IsNew (store : MemObjects) : Type 0 where
  pub objects : store.objects ≡ []
  pub calls : IsFresh store.calls
  pub counts : (store.faults ≡ 0) × (store.misses ≡ 0) × (store.changes ≡ 0)

-- this is the store that was found, or a new one where none was
abbrev pub IsFound : Option MemObjects → MemObjects → Type 0
IsFound None store = IsNew store
IsFound (Some found) store = store ≡ found

-- something stands under each of the names
abbrev pub HasPlaces : {T : Type 0} → List (Named T) → List (List ℕ) → Type 0
HasPlaces items names = (name : List ℕ) → IsTrue (is_among names name) → IsSome (item_under items name)

-- under each name but these stands what stood there
abbrev pub IsSameBut : {T : Type 0} → List (List ℕ) → List (Named T) → List (Named T) → Type 0
IsSameBut names old new = (name : List ℕ) → is_among names name ≡ false → item_under new name ≡ item_under old name

-- some of these names under which nothing stood have something that P holds of, and else nothing changed
abbrev pub GetsPlaces : {T : Type 0} → (T → Type 0) → List (List ℕ) → List (Named T) → List (Named T) → Type 0
GetsPlaces P names old new = (name : List ℕ) → (item_under new name ≡ item_under old name) ⊎ (IsTrue (is_among names name) × (item_under old name ≡ None) × IsSomeAnd (item_under new name) P)

-- the names of the stores and tiers that are lent
abbrev pub lent_names : Option MediaNames → List (List ℕ)
lent_names None = []
lent_names (Some names) = all_names (name_lists names)

-- the journal's name that is lent
abbrev pub lent_journals : Option MediaNames → List (List ℕ)
lent_journals None = []
lent_journals (Some names) = (name_lists names).journal ∷ []

-- ---- what stands in the places of others

-- the one that was found, or else this
abbrev pub found_or : {T : Type 0} → T → Option T → T
found_or item None = item
found_or item (Some found) = found

-- this stands under the name, where something stood there
abbrev pub with_item : {T : Type 0} → List ℕ → T → List (Named T) → List (Named T)
with_item name item [] = []
with_item name item (one ∷ more) = if bytes_eq (string_bytes one.name) name then (record one { item = item }) ∷ more else one ∷ with_item name item more

-- these are under the names, one after another
abbrev pub with_stores : List (List ℕ) → List MemObjects → List (Named MemObjects) → List (Named MemObjects)
with_stores [] given stores = stores
with_stores (name ∷ names) [] stores = stores
with_stores (name ∷ names) (store ∷ given) stores = with_stores names given (with_item name store stores)

-- what each of them took the place of
abbrev pub taken : List (List ℕ) → List MemObjects → List (Named MemObjects) → List MemObjects
taken [] given stores = given
taken (name ∷ names) [] stores = []
taken (name ∷ names) (store ∷ given) stores = found_or store (item_under stores name) ∷ taken names given (with_item name store stores)

-- so it is with the tiers of each worker
abbrev pub with_tiers : List (List (List ℕ)) → List (List MemObjects) → List (Named MemObjects) → List (Named MemObjects)
with_tiers [] given stores = stores
with_tiers (worker ∷ workers) [] stores = stores
with_tiers (worker ∷ workers) (tiers ∷ given) stores = with_tiers workers given (with_stores worker tiers stores)

abbrev pub taken_tiers : List (List (List ℕ)) → List (List MemObjects) → List (Named MemObjects) → List (List MemObjects)
taken_tiers [] given stores = given
taken_tiers (worker ∷ workers) [] stores = []
taken_tiers (worker ∷ workers) (tiers ∷ given) stores = taken worker tiers stores ∷ taken_tiers workers given (with_stores worker tiers stores)
