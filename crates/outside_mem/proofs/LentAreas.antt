-- What areas that are lent and taken back hold, and what a shelf holds meanwhile.
use Rattle.std.proofs.Common.{◌≡◌, ℕ, Bool, true, false, List, [], ◌∷◌, ◌⊎◌, inl, inr, refl, sym, ap, ◌∙◌, subst}
use Rattle.std.specs.Prelude.{IsSome, IsSomeAnd, None, Option, Some, is_some, ◌||◌}
use Rattle.std.specs.Str.{bytes_eq}
use Rattle.outside.specs.AreaShelf.{HoldsAreas, KeepsAreasBut}
use Rattle.outside.specs.Fuse.{Fusing}
use Rattle.outside.proofs.NamesApart.{first_among, name_turned}
use Rattle.outside_mem.specs.Disks.{disk_history}
use Rattle.outside_mem.specs.Named.{GetsPlaces, HasPlaces, IsSameBut, IsUnder, found_or, item_under, with_item}
use Rattle.outside_mem.specs.NamedAreas.{AreFoundAreas, AreNewAreas, areas_of, bytes_of, unfused}
use Rattle.outside_mem.specs.declared.disk.MemDisk.{MemDisk}
use Rattle.outside_mem.specs.declared.named.Named.{Named}
use Rattle.outside_mem.proofs.Lending.{place_step}
use Rattle.outside_mem.proofs.NamedItems.{other_under, own_under}
use Rattle.outside_mem.proofs.Places.{one_place}

-- what is held where new areas are
new_bytes : (pair : MemDisk × MemDisk) → AreNewAreas pair → bytes_of (Some pair) ≡ ([], [])
new_bytes pair new = λ i. (ap (λ h. h.now.held) new.0.history i, ap (λ h. h.now.held) new.1.history i)

found_bytes : (found : Option (MemDisk × MemDisk)) (pair : MemDisk × MemDisk) → AreFoundAreas found pair → bytes_of found ≡ bytes_of (Some pair)
found_bytes None pair new = sym (new_bytes pair new)
found_bytes (Some found) pair e = sym (ap (λ pair. bytes_of (Some pair)) e)

-- areas that were found under a name, or new ones, hold what is held there
pub holds_found : (areas : List (Named (MemDisk × MemDisk))) (name : List ℕ) (pair : Fusing MemDisk × Fusing MemDisk) → AreFoundAreas (item_under areas name) (unfused pair) → HoldsAreas (λ _. true) disk_history (Some (areas_of areas)) name pair
holds_found areas name pair found =
    let e = found_bytes (item_under areas name) (unfused pair) found in
    record { first = λ _. ap (λ bytes. bytes.0) e; second = λ _. ap (λ bytes. bytes.1) e }

-- and so do those that are under the name
pub holds_under : (areas : List (Named (MemDisk × MemDisk))) (name : List ℕ) (pair : Fusing MemDisk × Fusing MemDisk) → IsUnder areas name (unfused pair) → HoldsAreas (λ _. true) disk_history (Some (areas_of areas)) name pair
holds_under areas name pair under =
    let e = ap bytes_of under in
    record { first = λ _. ap (λ bytes. bytes.0) e; second = λ _. ap (λ bytes. bytes.1) e }

-- ---- areas in the place of others

pub under_swapped : (name : List ℕ) (areas : List (Named (MemDisk × MemDisk))) (given pair : MemDisk × MemDisk) → HasPlaces areas (name ∷ []) → pair ≡ found_or given (item_under areas name) → IsUnder areas name pair
under_swapped name areas given pair has e = step (item_under areas name) (has name (first_among name [])) e
  where
    step : (found : Option (MemDisk × MemDisk)) → IsSome found → pair ≡ found_or given found → found ≡ Some pair
    step None h e = cc
    step (Some found) h e = ap Some (sym e)

found_step : (pair : MemDisk × MemDisk) (old mid : Option (MemDisk × MemDisk)) → mid ≡ Some pair → (mid ≡ old) ⊎ ((old ≡ None) × IsSomeAnd mid AreNewAreas) → AreFoundAreas old pair
found_step pair old mid e (inl same) = subst (λ found. AreFoundAreas found pair) (sym e ∙ same) refl
found_step pair old mid e (inr p) = subst (λ found. AreFoundAreas found pair) (sym p.0) (subst (λ found. IsSomeAnd found AreNewAreas) e p.1)

-- what is under a name that got its place was found there before, or is new
pub found_since : (name : List ℕ) (old mid : List (Named (MemDisk × MemDisk))) (pair : MemDisk × MemDisk) → GetsPlaces AreNewAreas (name ∷ []) old mid → IsUnder mid name pair → AreFoundAreas (item_under old name) pair
found_since name old mid pair gets under = found_step pair (item_under old name) (item_under mid name) under (place_step AreNewAreas (name ∷ []) old mid name gets)

pub given_under : (name : List ℕ) (given : MemDisk × MemDisk) (areas new : List (Named (MemDisk × MemDisk))) → HasPlaces areas (name ∷ []) → new ≡ with_item name given areas → IsUnder new name given
given_under name given areas new has e = ap (λ areas. item_under areas name) e ∙ own_under name given areas (has name (first_among name []))

pub places_kept : (name : List ℕ) (given : MemDisk × MemDisk) (areas new : List (Named (MemDisk × MemDisk))) → HasPlaces areas (name ∷ []) → new ≡ with_item name given areas → HasPlaces new (name ∷ [])
places_kept name given areas new has e = one_place name new (ap is_some (given_under name given areas new has e))

-- nothing is held under the name of new areas
pub lacks_new : (name : List ℕ) (given : MemDisk × MemDisk) (areas : List (Named (MemDisk × MemDisk))) → AreNewAreas given → IsUnder areas name given → areas_of areas name ≡ ([], [])
lacks_new name given areas new under = ap bytes_of under ∙ new_bytes given new

pub others_same : (name : List ℕ) (given : MemDisk × MemDisk) (areas new : List (Named (MemDisk × MemDisk))) → new ≡ with_item name given areas → IsSameBut (name ∷ []) areas new
others_same name given areas new e = λ other h. ap (λ areas. item_under areas other) e ∙ other_under name other given areas (name_turned other name false (alone (bytes_eq other name) h))
  where
    alone : (b : Bool) → (b || false) ≡ false → b ≡ false
    alone true h = cc
    alone false h = refl

pub keeps_areas : (name : List ℕ) (old new : List (Named (MemDisk × MemDisk))) → IsSameBut (name ∷ []) old new → KeepsAreasBut name (Some (areas_of old)) (Some (areas_of new))
keeps_areas name old new same = record { tells = refl; others = λ other h. ap bytes_of (same other (alone (bytes_eq other name) (name_turned name other false h))) }
  where
    alone : (b : Bool) → b ≡ false → (b || false) ≡ false
    alone true h = h
    alone false h = refl

-- places change nothing of what is held
place_holds : (old new : Option (MemDisk × MemDisk)) → (new ≡ old) ⊎ ((old ≡ None) × IsSomeAnd new AreNewAreas) → bytes_of new ≡ bytes_of old
place_holds old new (inl e) = ap bytes_of e
place_holds old None (inr p) = absurd p.1
place_holds old (Some pair) (inr p) = new_bytes pair p.1 ∙ sym (ap bytes_of p.0)

pub area_place_holds : (name : List ℕ) (old new : List (Named (MemDisk × MemDisk))) → GetsPlaces AreNewAreas (name ∷ []) old new → areas_of new ≡ areas_of old
area_place_holds name old new gets = λ i other. place_holds (item_under old other) (item_under new other) (place_step AreNewAreas (name ∷ []) old new other gets) i
