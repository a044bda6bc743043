-- Names that are among others, and names that are not.
use Rattle.std.proofs.Common.{◌≡◌, ℕ, Bool, true, false, List, [], ◌∷◌, ◌++◌, ◌⊎◌, inl, inr, refl, sym, ◌∙◌, subst}
use Rattle.std.specs.Prelude.{not, ◌||◌}
use Rattle.std.specs.Str.{bytes_eq}
use Rattle.std.specs.Cmp.Lexicographic.{bytes_decides, nat_list_eq_equiv}
use Rattle.std.proofs.lemmas.List.Folds.{list_any-append}
use Rattle.outside.specs.Shelf.{are_distinct, is_among}
use Rattle.outside.proofs.Deciding.{both_true, or_true}

pub name_same : (a b : List ℕ) → bytes_eq a b ≡ true → a ≡ b
name_same a b = (bytes_decides a b).0

pub name_self : (a : List ℕ) → bytes_eq a a ≡ true
name_self a = (bytes_decides a a).1 refl

pub name_turned : (a b : List ℕ) (c : Bool) → bytes_eq a b ≡ c → bytes_eq b a ≡ c
name_turned a b c e = nat_list_eq_equiv.symm b a ∙ e

pub not_true : (a : Bool) → not a ≡ true → a ≡ false
not_true true h = cc
not_true false h = refl

pub either_false : (a b : Bool) → (a || b) ≡ false → (a ≡ false) × (b ≡ false)
either_false true b h = cc
either_false false b h = (refl, h)

pub either_true : (a b : Bool) → (a || b) ≡ true → (a ≡ true) ⊎ (b ≡ true)
either_true true b h = inl refl
either_true false b h = inr h

pub or_later : (a b : Bool) → b ≡ true → (a || b) ≡ true
or_later a b h = rw h (or_true a)

-- the first name is among the names
pub first_among : (name : List ℕ) (names : List (List ℕ)) → is_among (name ∷ names) name ≡ true
first_among name names = rw (name_self name) refl

pub later_among : (name other : List ℕ) (names : List (List ℕ)) → is_among names other ≡ true → is_among (name ∷ names) other ≡ true
later_among name other names h = or_later (bytes_eq other name) (is_among names other) h

-- a name that isn't among those of which another is one differs from it
pub apart : (name other : List ℕ) (names : List (List ℕ)) → is_among names name ≡ false → is_among names other ≡ true → bytes_eq name other ≡ false
apart name other names h k = step (bytes_eq name other) refl
  where
    step : (c : Bool) → bytes_eq name other ≡ c → c ≡ false
    step true e = let same = name_same name other e in absurd (elim_both (subst (λ x. is_among names x ≡ false) same h) k)
      where
        elim_both : is_among names other ≡ false → is_among names other ≡ true → ⊥
        elim_both p q = cc
    step false e = refl

pub among-append : (xs ys : List (List ℕ)) (name : List ℕ) → is_among (xs ++ ys) name ≡ (is_among xs name || is_among ys name)
among-append xs ys name = list_any-append (bytes_eq name) xs ys

pub among_front : (xs ys : List (List ℕ)) (name : List ℕ) → is_among xs name ≡ true → is_among (xs ++ ys) name ≡ true
among_front xs ys name h = among-append xs ys name ∙ rw h refl

pub among_back : (xs ys : List (List ℕ)) (name : List ℕ) → is_among ys name ≡ true → is_among (xs ++ ys) name ≡ true
among_back xs ys name h = among-append xs ys name ∙ or_later (is_among xs name) (is_among ys name) h

-- names in two parts of which no two are equal
pub record Apart (xs ys : List (List ℕ)) : Type 0 where
  pub front : are_distinct xs ≡ true
  pub back : are_distinct ys ≡ true
  pub across : (name : List ℕ) → is_among ys name ≡ true → is_among xs name ≡ false

pub parts_apart : (xs ys : List (List ℕ)) → are_distinct (xs ++ ys) ≡ true → Apart xs ys
parts_apart [] ys h = record { front = refl; back = h; across = λ name k. refl }
parts_apart (x ∷ xs) ys h =
    let parts = both_true (not (is_among (xs ++ ys) x)) (are_distinct (xs ++ ys)) h in
    let outside = either_false (is_among xs x) (is_among ys x) (sym (among-append xs ys x) ∙ not_true _ parts.0) in
    let more = parts_apart xs ys parts.1 in
    record {
      front = rw (outside.0, more.front) refl;
      back = more.back;
      across = λ name k. rw (name_turned x name false (apart x name ys outside.1 k)) (more.across name k);
    }
