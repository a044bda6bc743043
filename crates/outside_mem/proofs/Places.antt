-- Places that are made for names.
use Rattle.std.proofs.Common.{◌≡◌, ◌<◌, ℕ, zero, suc, length, get_or, map, arith, true, false, List, [], ◌∷◌, ◌++◌, ◌⊎◌, inl, inr, refl, sym, ap, ◌∙◌, subst}
use Rattle.std.specs.Prelude.{IsSome, IsSomeAnd, is_some, option_map, Some, None, Option}
use Rattle.std.specs.Str.{bytes_eq}
use Rattle.outside.specs.Shelf.{is_among, tier_names}
use Rattle.outside.proofs.NamesApart.{among_back, among_front, among-append, either_true, first_among, later_among, name_same}
use Rattle.outside_mem.specs.Named.{GetsPlaces, HasPlaces, IsNew, item_under}
use Rattle.outside_mem.specs.declared.named.Named.{Named}
use Rattle.outside_mem.specs.declared.store.MemObjects.{MemObjects}

-- ---- places of several names

pub gets_none : (names : List (List ℕ)) (stores : List (Named MemObjects)) → GetsPlaces IsNew names stores stores
gets_none names stores = λ name. inl refl

some_and : (found : Option MemObjects) → IsSomeAnd found IsNew → IsSome found
some_and None h = absurd h
some_and (Some found) h = refl

pub gets_some : (names : List (List ℕ)) (old new : List (Named MemObjects)) (name : List ℕ) → GetsPlaces IsNew names old new → IsSome (item_under old name) → IsSome (item_under new name)
gets_some names old new name gets h = elim (gets name) [ inl e ↦ ap is_some e ∙ h | inr p ↦ some_and (item_under new name) p.2 ]

-- places that some names get and then others, all of them among these
pub gets_more : (names some : List (List ℕ)) (old mid new : List (Named MemObjects)) → ((name : List ℕ) → is_among some name ≡ true → is_among names name ≡ true) → GetsPlaces IsNew names old mid → GetsPlaces IsNew some mid new → GetsPlaces IsNew names old new
gets_more names some old mid new within first next = λ name. elim (first name) [ inl e ↦ elim (next name) [ inl f ↦ inl (f ∙ e) | inr p ↦ inr (within name p.0, sym e ∙ p.1, p.2) ] | inr p ↦ elim (next name) [ inl f ↦ inr (p.0, p.1, subst (λ x. IsSomeAnd x IsNew) (sym f) p.2) | inr q ↦ inr (p.0, p.1, q.2) ] ]

-- each of these names has a place, or is among those that are left
abbrev pub PlacesBut : List (List ℕ) → List (Named MemObjects) → List (List ℕ) → Type 0
PlacesBut left stores names = (name : List ℕ) → is_among names name ≡ true → (is_among left name ≡ true) ⊎ IsSome (item_under stores name)

pub places_begun : (names : List (List ℕ)) (stores : List (Named MemObjects)) → PlacesBut names stores names
places_begun names stores = λ name h. inl h

pub places_on : (front left names some : List (List ℕ)) (old new : List (Named MemObjects)) → PlacesBut (front ++ left) old names → GetsPlaces IsNew some old new → HasPlaces new front → PlacesBut left new names
places_on front left names some old new but gets has = λ name h. elim (but name h) [ inl p ↦ step name (either_true (is_among front name) (is_among left name) (sym (among-append front left name) ∙ p)) | inr q ↦ inr (gets_some some old new name gets q) ]
  where
    step : (name : List ℕ) → (is_among front name ≡ true) ⊎ (is_among left name ≡ true) → (is_among left name ≡ true) ⊎ IsSome (item_under new name)
    step name (inl p) = inr (has name p)
    step name (inr p) = inl p

pub places_ended : (names : List (List ℕ)) (stores : List (Named MemObjects)) → PlacesBut [] stores names → HasPlaces stores names
places_ended names stores but = λ name h. elim (but name h) [ inl p ↦ cc | inr q ↦ q ]

-- ---- places of the names in a list of texts

pub among_at : {A : Type 0} (text : A → List ℕ) (xs : List A) (i : ℕ) (d : A) → i < length xs → is_among (map text xs) (text (get_or xs i d)) ≡ true
among_at text [] i d h = absurd (omega (arith, h))
among_at text (x ∷ xs) zero d h = first_among (text x) (map text xs)
among_at text (x ∷ xs) (suc i) d h = later_among (text x) _ (map text xs) (among_at text xs i d (omega (arith, h)))

-- the one name of a list is among the names of which it is one
pub one_among : (name : List ℕ) (names : List (List ℕ)) → is_among names name ≡ true → (other : List ℕ) → is_among (name ∷ []) other ≡ true → is_among names other ≡ true
one_among name names h other k = elim (either_true (bytes_eq other name) false k) [ inl e ↦ subst (λ x. is_among names x ≡ true) (sym (name_same other name e)) h | inr e ↦ cc ]

pub one_place : {T : Type 0} (name : List ℕ) (items : List (Named T)) → IsSome (item_under items name) → HasPlaces items (name ∷ [])
one_place name items h = λ other k. elim (either_true (bytes_eq other name) false k) [ inl e ↦ subst (λ x. IsSome (item_under items x)) (sym (name_same other name e)) h | inr e ↦ cc ]

pub worker_among : {W : Type 0} (texts : W → List (List ℕ)) (workers : List W) (i : ℕ) (d : W) → i < length workers → (name : List ℕ) → is_among (texts (get_or workers i d)) name ≡ true → is_among (tier_names (map texts workers)) name ≡ true
worker_among texts [] i d h name k = absurd (omega (arith, h))
worker_among texts (worker ∷ workers) zero d h name k = among_front (texts worker) (tier_names (map texts workers)) name k
worker_among texts (worker ∷ workers) (suc i) d h name k = among_back (texts worker) (tier_names (map texts workers)) name (worker_among texts workers i d (omega (arith, h)) name k)

-- nothing was copied where nothing was found
pub none_copied : {A B : Type 0} (copy : A → B) (found : Option A) (one : Option B) → option_map copy found ≡ one → is_some found ≡ false → one ≡ None
none_copied copy None one e h = sym e
none_copied copy (Some x) one e h = cc
