-- What is under a name after something came under a name.
use Rattle.std.proofs.Common.{◌≡◌, ℕ, zero, suc, Bool, true, false, ◌<◌, List, [], ◌∷◌, ◌++◌, ◌⊎◌, inl, inr, length, take, drop, refl, sym, ap, ◌∙◌, subst, arith, slice_set, slice_index_or}
use Rattle.std.specs.Prelude.{Some, None, IsSome, IsSomeAnd, is_some, option_map, Option, if◌then◌else◌}
use Rattle.std.specs.Str.{bytes_eq}
use Rattle.std.specs.String.{string_bytes}
use Rattle.outside.specs.Shelf.{is_among}
use Rattle.outside.proofs.NamesApart.{name_same, name_self, name_turned}
use Rattle.outside_mem.specs.Named.{GetsPlaces, item_under, with_item}
use Rattle.outside_mem.specs.declared.named.Named.{Named}

same_tests : (x y z : List ℕ) (b c : Bool) → bytes_eq x y ≡ true → bytes_eq x z ≡ b → bytes_eq y z ≡ c → b ≡ c
same_tests x y z b c e p q = sym p ∙ ap (λ w. bytes_eq w z) (name_same x y e) ∙ q

same_either : {A : Type 0} (b : Bool) (x : A) → (if b then x else x) ≡ x
same_either true x = refl
same_either false x = refl

module _ {T : Type 0} where
  -- something comes under the name of the first that has it
  pub with_item-at : (name : List ℕ) (item : T) (d : Named T) (items : List (Named T)) (i : ℕ) → i < length items → bytes_eq (string_bytes (slice_index_or items i d).name) name ≡ true → take i items ++ with_item name item (drop i items) ≡ slice_set items i (record (slice_index_or items i d) { item = item })
  with_item-at name item d [] i h e = absurd (omega (arith, h))
  with_item-at name item d (one ∷ more) zero h e = rw e refl
  with_item-at name item d (one ∷ more) (suc i) h e = ap (λ rest. one ∷ rest) (with_item-at name item d more i (omega (arith, h)) e)

  -- ---- one name

  under_step : (one : Named T) (name other : List ℕ) (item : T) (more : List (Named T)) (a b c : Bool) → bytes_eq (string_bytes one.name) name ≡ a → bytes_eq (string_bytes one.name) other ≡ b → bytes_eq name other ≡ c → item_under (with_item name item more) other ≡ (if c then option_map (λ _. item) (item_under more other) else item_under more other) → item_under (if a then (record one { item = item }) ∷ more else one ∷ with_item name item more) other ≡ (if c then option_map (λ _. item) (if b then Some one.item else item_under more other) else (if b then Some one.item else item_under more other))
  under_step one name other item more true true true p q r before = rw q refl
  under_step one name other item more true true false p q r before = absurd (differ (same_tests (string_bytes one.name) name other true false p q r))
    where
      differ : true ≡ false → ⊥
      differ e = cc
  under_step one name other item more true false true p q r before = absurd (differ (same_tests (string_bytes one.name) name other false true p q r))
    where
      differ : false ≡ true → ⊥
      differ e = cc
  under_step one name other item more true false false p q r before = rw q refl
  under_step one name other item more false true true p q r before = absurd (differ (same_tests other (string_bytes one.name) name true false (name_turned (string_bytes one.name) other true q) (name_turned name other true r) p))
    where
      differ : true ≡ false → ⊥
      differ e = cc
  under_step one name other item more false true false p q r before = rw q refl
  under_step one name other item more false false c p q r before = rw q before

  -- the name has the item, where it had one, and each other name has what it had
  pub under-with_item : (name other : List ℕ) (item : T) (items : List (Named T)) → item_under (with_item name item items) other ≡ (if bytes_eq name other then option_map (λ _. item) (item_under items other) else item_under items other)
  under-with_item name other item [] = sym (same_either (bytes_eq name other) None)
  under-with_item name other item (one ∷ more) = under_step one name other item more (bytes_eq (string_bytes one.name) name) (bytes_eq (string_bytes one.name) other) (bytes_eq name other) refl refl refl (under-with_item name other item more)

  pub other_under : (name other : List ℕ) (item : T) (items : List (Named T)) → bytes_eq name other ≡ false → item_under (with_item name item items) other ≡ item_under items other
  other_under name other item items e = under-with_item name other item items ∙ rw e refl

  filled : (item : T) (found : Option T) → IsSome found → option_map (λ _. item) found ≡ Some item
  filled item None h = cc
  filled item (Some found) h = refl

  pub own_under : (name : List ℕ) (item : T) (items : List (Named T)) → IsSome (item_under items name) → item_under (with_item name item items) name ≡ Some item
  own_under name item items h = under-with_item name name item items ∙ rw (name_self name) (filled item (item_under items name) h)

  pub some_with_item : (name other : List ℕ) (item : T) (items : List (Named T)) → is_some (item_under (with_item name item items) other) ≡ is_some (item_under items other)
  some_with_item name other item items = ap is_some (under-with_item name other item items) ∙ step (bytes_eq name other) (item_under items other)
    where
      step : (c : Bool) (found : Option T) → is_some (if c then option_map (λ _. item) found else found) ≡ is_some found
      step true None = refl
      step true (Some found) = refl
      step false found = refl

  -- ---- one more name

  -- the one that was found, or else the last where it has the name
  abbrev or_last : Named T → List ℕ → Option T → Option T
  or_last last name None = if bytes_eq (string_bytes last.name) name then Some last.item else None
  or_last last name (Some found) = Some found

  under_last : (last : Named T) (name : List ℕ) (items : List (Named T)) → item_under (items ++ last ∷ []) name ≡ or_last last name (item_under items name)
  under_last last name [] = refl
  under_last last name (one ∷ more) = step (bytes_eq (string_bytes one.name) name) (under_last last name more)
    where
      step : (c : Bool) → item_under (more ++ last ∷ []) name ≡ or_last last name (item_under more name) → (if c then Some one.item else item_under (more ++ last ∷ []) name) ≡ or_last last name (if c then Some one.item else item_under more name)
      step true e = refl
      step false e = e

  -- something new behind others, of a name that had none, is the place of this name
  pub last_gets : (P : T → Type 0) (items : List (Named T)) (last : Named T) (name : List ℕ) → string_bytes last.name ≡ name → item_under items name ≡ None → P last.item → GetsPlaces P (name ∷ []) items (items ++ last ∷ [])
  last_gets P items last name e none new = λ other. step other (item_under items other) refl (bytes_eq (string_bytes last.name) other) refl
    where
      step : (other : List ℕ) (found : Option T) → item_under items other ≡ found → (c : Bool) → bytes_eq (string_bytes last.name) other ≡ c → (item_under (items ++ last ∷ []) other ≡ item_under items other) ⊎ ((is_among (name ∷ []) other ≡ true) × (item_under items other ≡ None) × IsSomeAnd (item_under (items ++ last ∷ []) other) P)
      step other (Some found) p c q = inl (under_last last other items ∙ rw p refl)
      step other None p false q = inl (under_last last other items ∙ rw (p, q) refl)
      step other None p true q =
          let same : bytes_eq other name ≡ true = subst (λ x. bytes_eq other x ≡ true) e (name_turned (string_bytes last.name) other true q) in
          let found : item_under (items ++ last ∷ []) other ≡ Some last.item = under_last last other items ∙ rw (p, q) refl in
          inr (rw same refl, p, subst (λ x. IsSomeAnd x P) (sym found) new)

  pub last_place : (items : List (Named T)) (last : Named T) (name : List ℕ) → string_bytes last.name ≡ name → IsSome (item_under (items ++ last ∷ []) name)
  last_place items last name e = ap is_some (under_last last name items) ∙ step (item_under items name)
    where
      named : bytes_eq (string_bytes last.name) name ≡ true
      named = subst (λ x. bytes_eq x name ≡ true) (sym e) (name_self name)

      step : (found : Option T) → is_some (or_last last name found) ≡ true
      step None = rw named refl
      step (Some found) = refl
