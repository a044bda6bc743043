-- What a world holds of journals' areas by name, and what it lends of them.
use Rattle.std.specs.Prelude.{ℕ, ◌≡◌, Bool, false, IfSome, IsTrue, List, [], None, Option, is_some}
use Rattle.std.specs.Str.{bytes_eq}
use Rattle.outside.specs.Fuse.{Fusing}
use Rattle.outside.specs.History.{History}

-- the bytes of the areas 0 and 1 under each journal's name; both are empty where nothing is held
abbrev pub AreaShelf : Type 0
AreaShelf = List ℕ → List ℕ × List ℕ

-- Where the world tells, it holds under the name what a read of each of the areas 0 and 1 gives, of one that tells.
pub record HoldsAreas {D : Type 0} (tells : D → Bool) (history : D → History) (areas : Option AreaShelf) (name : List ℕ) (pair : Fusing D × Fusing D) : Type 0 where
  pub first : IfSome areas (λ held. IsTrue (tells pair.0.disk) → (held name).0 ≡ (history pair.0.disk).now.held)
  pub second : IfSome areas (λ held. IsTrue (tells pair.1.disk) → (held name).1 ≡ (history pair.1.disk).now.held)

-- areas as they are lent: both tell where the world does, and neither has a fuse
pub record AreFresh {D : Type 0} (tells : D → Bool) (areas : Option AreaShelf) (pair : Fusing D × Fusing D) : Type 0 where
  pub tell : IfSome areas (λ _. IsTrue (tells pair.0.disk) × IsTrue (tells pair.1.disk))
  pub fuses : (pair.0.fuse ≡ None) × (pair.1.fuse ≡ None)

-- nothing is held under the name
abbrev pub LacksAreas : List ℕ → Option AreaShelf → Type 0
LacksAreas name areas = IfSome areas (λ held. held name ≡ ([], []))

-- under each name but this one the same is held as before, and the world tells as before
pub record KeepsAreasBut (name : List ℕ) (old new : Option AreaShelf) : Type 0 where
  pub tells : is_some new ≡ is_some old
  pub others : IfSome old (λ before. IfSome new (λ after. (other : List ℕ) → bytes_eq name other ≡ false → after other ≡ before other))

-- under each name the same is held as before, and the world tells as before
pub record KeepsAreas (old new : Option AreaShelf) : Type 0 where
  pub tells : is_some new ≡ is_some old
  pub each : IfSome old (λ before. IfSome new (λ after. (name : List ℕ) → after name ≡ before name))
