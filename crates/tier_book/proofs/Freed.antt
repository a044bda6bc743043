-- The sums of tiers, from which the bytes of chosen elements are taken off one after another.
use Rattle.std.proofs.Common.{◌≡◌, ℕ, ◌+◌, ◌-◌, ◌<◌, ◌≤◌, Bool, true, false, cond, not, inl, inr, List, [], ◌∷◌, ◌++◌, map, length, take, get_or, set, nat_eq, refl, sym, ap, subst, ◌∙◌, arith, get_or-set_same, get_or-set_other}
use Rattle.std.specs.List.{All, filter, sum_by}
use Rattle.std.proofs.lemmas.List.{append-nil, take_more, length-set, length-map, get_or-map}
use Rattle.std.proofs.lemmas.List.Elements.{filter-append}
use Rattle.std.proofs.lemmas.List.Sums.{sum_by_push, sum_by-take-le}
use Rattle.std.proofs.lemmas.List.Filters.{sum_by-filter_both}
use Rattle.std.proofs.lemmas.Bool.Decides.{eqb_tells}

-- a number equals itself
pub same : (n : ℕ) → nat_eq n n ≡ true
same n = elim (eqb_tells n n) [ inl e ↦ e.0 | inr e ↦ absurd (e.1 refl) ]

-- numbers that are alike or differ
pub alike : (a b : ℕ) → a ≡ b → nat_eq a b ≡ true
alike a b h = elim (eqb_tells a b) [ inl e ↦ e.0 | inr e ↦ absurd (e.1 h) ]

pub differ : (a b : ℕ) → (a ≡ b → ⊥) → nat_eq a b ≡ false
differ a b h = elim (eqb_tells a b) [ inl e ↦ absurd (h e.1) | inr e ↦ e.0 ]

-- what stands at s after a write at t
pub set_at : (xs : List ℕ) (t s v : ℕ) → t < length xs → get_or (set xs t v) s 0 ≡ cond (nat_eq t s) v (get_or xs s 0)
set_at xs t s v lt = elim (eqb_tells t s) [
  | inl e ↦ ap (λ k. get_or (set xs t v) k 0) (sym e.1) ∙ get_or-set_same xs t v 0 lt ∙ sym (ap (λ b. cond b v (get_or xs s 0)) e.0)
  | inr e ↦ get_or-set_other xs t s v 0 (λ h. e.1 (sym h)) ∙ sym (ap (λ b. cond b v (get_or xs s 0)) e.0)
]

-- one more element of a list that is seen through f
pub seen_more : {X Y : Type 0} (f : X → Y) (xs : List X) (i : ℕ) (x : X) → i < length xs → x ≡ get_or xs i x → take (i + 1) (map f xs) ≡ take i (map f xs) ++ f x ∷ []
seen_more f xs i x lt is =
    take_more (map f xs) i (f x) (let e = length-map xs f in omega arith)
    ∙ ap (λ y. take i (map f xs) ++ y ∷ []) (get_or-map f xs i x (f x) lt ∙ ap f (sym is))

module _ {X : Type 0} (tier bytes : X → ℕ) (at : ℕ → X → ℕ) (is : (t : ℕ) (x : X) → at t x ≡ cond (nat_eq (tier x) t) (bytes x) 0) (which : X → Bool) where
  -- the bytes of the chosen ones at a tier
  abbrev pub chosen : ℕ → List X → ℕ
  chosen t xs = sum_by (at t) (filter which xs)

  -- the bytes of the chosen ones are taken off
  pub record Frees (old now : List ℕ) (xs : List X) : Type 0 where
    pub long : length now ≡ length old
    pub freed : (t : ℕ) → t < length old → get_or now t 0 + chosen t xs ≡ get_or old t 0

  chosen_yes : (t : ℕ) (xs : List X) (x : X) → which x ≡ true → chosen t (xs ++ x ∷ []) ≡ chosen t xs + at t x
  chosen_yes t xs x h = ap (sum_by (at t)) (filter-append which xs (x ∷ []) ∙ ap (λ b. filter which xs ++ cond b (x ∷ []) []) h) ∙ sum_by_push (at t) (filter which xs) x

  chosen_no : (t : ℕ) (xs : List X) (x : X) → which x ≡ false → chosen t (xs ++ x ∷ []) ≡ chosen t xs
  chosen_no t xs x h = ap (sum_by (at t)) (filter-append which xs (x ∷ []) ∙ ap (λ b. filter which xs ++ cond b (x ∷ []) []) h ∙ append-nil (filter which xs))

  at_own : (x : X) → at (tier x) x ≡ bytes x
  at_own x = is (tier x) x ∙ ap (λ b. cond b (bytes x) 0) (same (tier x))

  -- the chosen ones of a front have no more bytes than all
  chosen_le : (t : ℕ) (xs : List X) (j : ℕ) → chosen t (take j xs) ≤ sum_by (at t) xs
  chosen_le t xs j =
      let both = sum_by-filter_both which (λ x. not (which x)) (λ _. refl) (at t) (take j xs) in
      let front = sum_by-take-le (at t) xs j in
      omega arith

  module _ (old now : List ℕ) (all : List X) (i : ℕ) (x : X) (more : take (i + 1) all ≡ take i all ++ x ∷ []) (so : Frees old now (take i all))
      (le : (t : ℕ) → t < length old → sum_by (at t) all ≤ get_or old t 0) where
    enough : which x ≡ true → tier x < length old → bytes x ≤ get_or now (tier x) 0
    enough h lt =
        let one = ap (chosen (tier x)) more ∙ chosen_yes (tier x) (take i all) x h in
        let own = at_own x in
        let part = chosen_le (tier x) all (i + 1) in
        let top = le (tier x) lt in
        let sofar = so.freed (tier x) lt in
        omega arith

    more_no : which x ≡ false → Frees old now (take (i + 1) all)
    more_no h = record { long = so.long; freed = λ t lt. ap (λ n. get_or now t 0 + n) (ap (chosen t) more ∙ chosen_no t (take i all) x h) ∙ so.freed t lt }

    more_yes : which x ≡ true → tier x < length old → Frees old (set now (tier x) (get_or now (tier x) 0 - bytes x)) (take (i + 1) all)
    more_yes h lt = record { long = length-set now (tier x) _ ∙ so.long; freed = step }
      where
        step : (t : ℕ) → t < length old → get_or (set now (tier x) (get_or now (tier x) 0 - bytes x)) t 0 + chosen t (take (i + 1) all) ≡ get_or old t 0
        step t in' =
            let one = ap (chosen t) more ∙ chosen_yes t (take i all) x h in
            let has = enough h lt in
            let sofar = so.freed t in' in
            let here = is t x in
            let write = set_at now (tier x) t (get_or now (tier x) 0 - bytes x) (let l = so.long in omega arith) in
            elim (eqb_tells (tier x) t) [
              | inl e ↦
                  let a : get_or (set now (tier x) (get_or now (tier x) 0 - bytes x)) t 0 ≡ get_or now (tier x) 0 - bytes x = write ∙ ap (λ b. cond b (get_or now (tier x) 0 - bytes x) (get_or now t 0)) e.0 in
                  let b : at t x ≡ bytes x = here ∙ ap (λ b. cond b (bytes x) 0) e.0 in
                  let d : get_or now (tier x) 0 ≡ get_or now t 0 = ap (λ k. get_or now k 0) e.1 in
                  omega arith
              | inr e ↦
                  let a : get_or (set now (tier x) (get_or now (tier x) 0 - bytes x)) t 0 ≡ get_or now t 0 = write ∙ ap (λ b. cond b (get_or now (tier x) 0 - bytes x) (get_or now t 0)) e.0 in
                  let b : at t x ≡ 0 = here ∙ ap (λ b. cond b (bytes x) 0) e.0 in
                  omega arith
            ]

  -- a step of a loop over a list that is seen through f
  module _ {Y : Type 0} (f : Y → X) (old now : List ℕ) (ys : List Y) (i : ℕ) (y : Y) (in' : i < length ys) (read : y ≡ get_or ys i y) (so : Frees old now (take i (map f ys)))
      (tiers : All (λ x. tier x < length old) (map f ys)) (le : (t : ℕ) → t < length old → sum_by (at t) (map f ys) ≤ get_or old t 0) where
    within : tier (f y) < length old
    within = subst (λ x. tier x < length old) (get_or-map f ys i y (f y) in' ∙ ap f (sym read)) (tiers i (f y) (let e = length-map ys f in omega arith))

    -- the element is at a tier
    pub step_tier : tier (f y) < length now
    step_tier = let lt = within in let l = so.long in omega arith

    -- a chosen one has no more bytes than are taken of its tier
    pub step_taken : which (f y) ≡ true → bytes (f y) ≤ get_or now (tier (f y)) 0
    step_taken h = enough old now (map f ys) i (f y) (seen_more f ys i y in' read) so le h within

    -- its bytes are taken off
    pub step_yes : (next : List ℕ) → next ≡ set now (tier (f y)) (get_or now (tier (f y)) 0 - bytes (f y)) → which (f y) ≡ true → Frees old next (take (i + 1) (map f ys))
    step_yes next w h = subst (λ n. Frees old n (take (i + 1) (map f ys))) (sym w) (more_yes old now (map f ys) i (f y) (seen_more f ys i y in' read) so le h within)

    -- those of another stay
    pub step_no : (next : List ℕ) → next ≡ now → which (f y) ≡ false → Frees old next (take (i + 1) (map f ys))
    step_no next w h = subst (λ n. Frees old n (take (i + 1) (map f ys))) (sym w) (more_no old now (map f ys) i (f y) (seen_more f ys i y in' read) so le h)
