-- What a world holds of stores and tiers by name, and which of them it lends.
use Rattle.std.specs.Prelude.{ℕ, ◌≡◌, Bool, true, false, not, ◌&&◌, IsTrue, List, [], ◌∷◌, ◌++◌, map, length, option_map, Option}
use Rattle.std.specs.List.{AllZip, list_any}
use Rattle.std.specs.Str.{bytes_eq}
use Rattle.std.specs.String.{string_bytes}
use Rattle.outside.specs.Contents.{Contents, IsSame, emptied}
use Rattle.outside.specs.declared.media.Media.{Media}
use Rattle.outside.specs.declared.media.MediaNames.{MediaNames}

-- ---- names of media

-- the names of media, each as its bytes
pub record NameLists : Type 0 where
  pub journal : List ℕ
  pub stores : List (List ℕ)
  pub tiers : List (List (List ℕ))

abbrev pub name_lists : MediaNames → NameLists
name_lists names = record { journal = string_bytes names.journal; stores = map string_bytes names.stores.items; tiers = map (λ worker. map string_bytes worker.items) names.tiers.items }

-- the names of all workers' tiers
abbrev pub tier_names : List (List (List ℕ)) → List (List ℕ)
tier_names [] = []
tier_names (worker ∷ workers) = worker ++ tier_names workers

-- all names, those of the stores first
abbrev pub all_names : NameLists → List (List ℕ)
all_names names = names.stores ++ tier_names names.tiers

-- the name is one of these
abbrev pub is_among : List (List ℕ) → List ℕ → Bool
is_among names name = list_any (bytes_eq name) names

-- no two of the names are equal
abbrev pub are_distinct : List (List ℕ) → Bool
are_distinct [] = true
are_distinct (name ∷ names) = not (is_among names name) && are_distinct names

-- ---- media under names

-- there is one store for each name of one, and for each worker one tier for each of its names
pub record HasShape {D S : Type 0} (names : NameLists) (media : Media D S) : Type 0 where
  pub stores : length media.stores.items ≡ length names.stores
  pub tiers : map (λ tiers. length tiers.items) media.tiers.items ≡ map length names.tiers

-- R holds of each name and the store or tier at its place
pub record EachNamed {D S : Type 0} (R : List ℕ → S → Type 0) (names : NameLists) (media : Media D S) : Type 0 where
  pub stores : AllZip R names.stores media.stores.items
  pub tiers : AllZip (λ worker tiers. AllZip R worker tiers.items) names.tiers media.tiers.items

-- ---- what is held

-- the objects of the store or tier of each name; there are none where nothing is held
abbrev pub Shelf : Type 0
Shelf = List ℕ → Contents

-- what is held under a name, where the world tells
abbrev pub under : Option Shelf → List ℕ → Option Contents
under shelf name = option_map (λ held. held name) shelf

-- a store or tier tells what is held under the name, and tells where the world does
abbrev pub TellsHeld : {S : Type 0} → (S → Option Contents) → Option Shelf → List ℕ → S → Type 0
TellsHeld told shelf name store = IsSame (under shelf name) (told store)

-- nothing is held under these names
abbrev pub LacksEach : List (List ℕ) → Option Shelf → Type 0
LacksEach names shelf = (name : List ℕ) → IsTrue (is_among names name) → IsSame (option_map emptied (under shelf name)) (under shelf name)

-- under each name but these the same is held as before
abbrev pub KeepsBut : List (List ℕ) → Option Shelf → Option Shelf → Type 0
KeepsBut names old new = (name : List ℕ) → is_among names name ≡ false → IsSame (under old name) (under new name)
