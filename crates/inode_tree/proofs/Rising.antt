-- Lists of entries whose keys rise: what stands before and after the place of a key.
use Rattle.std.proofs.Common.{◌≡◌, ℕ, zero, suc, ◌+◌, ◌<◌, ◌≤◌, Bool, true, false, cond, inl, inr, List, [], ◌∷◌, map, length, take, drop, get_or, Option, Some, None, Ordering, T, refl, sym, ap, ◌∙◌, subst, arith}
use Rattle.std.specs.declared.cmp.Ordering.TheVariants.{Less, Equal, Greater}
use Rattle.std.specs.Ordering.{is_lt, is_eq, ordering_reverse, eq_by_cmp}
use Rattle.std.specs.Cmp.{IsTotalOrder}
use Rattle.std.specs.List.{AllWithin, insert, filter_map, cons_option}
use Rattle.std.specs.Prelude.{set}
use Rattle.std.specs.List.Sorted.{IsPartitionedBy}
use Rattle.std.specs.FinMap.Entries.{by_order, find, put, below_all, is_sorted, is_sorted-put}
use Rattle.std.proofs.lemmas.Bool.{and_parts, cases_lt}
use Rattle.std.proofs.lemmas.List.{drop_all}

-- a test that answers true is passed
pub passed : (b : Bool) → b ≡ true → T b
passed b h = subst T (sym h) tt

pub is_true : (b : Bool) → T b → b ≡ true
is_true true h = refl
is_true false h = absurd h

pub less : (r : Ordering) → is_lt r ≡ true → r ≡ Less
less Less h = refl
less Equal h = cc
less Greater h = cc

level : (r : Ordering) → is_eq r ≡ true → r ≡ Equal
level Less h = cc
level Equal h = refl
level Greater h = cc

-- what is neither below nor level is above
above : (r : Ordering) → is_lt r ≡ false → is_eq (ordering_reverse r) ≡ false → ordering_reverse r ≡ Less
above Less h e = cc
above Equal h e = cc
above Greater h e = refl

module _ {K V X : Type 0} {R : K → K → Ordering} (o : IsTotalOrder R) (entry : X → K × V) where
  -- a key of the list comes before q
  abbrev pub Before : K → X → Type 0
  Before q x = is_lt (R (entry x).0 q) ≡ true

  abbrev pub NotBefore : K → X → Type 0
  NotBefore q x = is_lt (R (entry x).0 q) ≡ false

  turned : (q k : K) → is_lt (R k q) ≡ true → R q k ≡ Greater
  turned q k h = o.antisymm q k ∙ ap ordering_reverse (less _ h)

  below_at : (k : K) (es : List X) (j : ℕ) (d : X) → below_all R k (map entry es) ≡ true → j < length es → R k (entry (get_or es j d)).0 ≡ Less
  below_at k [] j d h within = absurd (omega arith)
  below_at k (e ∷ es) zero d h within = less _ (and_parts _ _ h).0
  below_at k (e ∷ es) (suc j) d h within = below_at k es j d (and_parts _ _ h).1 (omega arith)

  -- of two places the later has the greater key
  pub rises : (es : List X) (i j : ℕ) (d : X) → is_sorted R (map entry es) ≡ true → i < j → j < length es → R (entry (get_or es i d)).0 (entry (get_or es j d)).0 ≡ Less
  rises [] i j d h lt within = absurd (omega arith)
  rises (e ∷ es) zero zero d h lt within = absurd (omega arith)
  rises (e ∷ es) zero (suc j) d h lt within = below_at (entry e).0 es j d (and_parts _ _ h).0 (omega arith)
  rises (e ∷ es) (suc i) zero d h lt within = absurd (omega arith)
  rises (e ∷ es) (suc i) (suc j) d h lt within = rises es i j d (and_parts _ _ h).1 (omega arith) (omega arith)

  pub is_sorted-drop : (i : ℕ) (es : List X) → is_sorted R (map entry es) ≡ true → is_sorted R (map entry (drop i es)) ≡ true
  is_sorted-drop zero es h = h
  is_sorted-drop (suc i) [] h = h
  is_sorted-drop (suc i) (e ∷ es) h = is_sorted-drop i es (and_parts _ _ h).1

  -- no key before q comes after one that isn't
  pub parted : (q : K) (es : List X) → is_sorted R (map entry es) ≡ true → IsPartitionedBy (λ x. is_lt (R (entry x).0 q)) es
  parted q es h i j d le within later = elim (cases_lt i j) [
    | inl lt ↦ ap is_lt (o.trans _ _ q (rises es i j d h lt within) (less _ later))
    | inr ge ↦ let same : j ≡ i = omega arith in subst (λ k. is_lt (R (entry (get_or es k d)).0 q) ≡ true) same later
  ]

  -- what comes before q isn't what is looked for
  pub find_past : (q : K) (es : List X) (i : ℕ) → i ≤ length es → AllWithin (Before q) es 0 i → find R q (map entry es) ≡ find R q (map entry (drop i es))
  find_past q es zero le before = refl
  find_past q [] (suc i) le before = refl
  find_past q (e ∷ es) (suc i) le before =
      ap (λ r. cond (is_eq r) (Some (entry e).1) (find R q (map entry es))) (turned q (entry e).0 (before 0 e (omega arith) (omega arith)))
      ∙ find_past q es i (omega arith) (λ k d low high. before (suc k) d (omega arith) (omega arith))

  find_above : (q : K) (e : X) (es : List X) → is_sorted R (map entry (e ∷ es)) ≡ true → R q (entry e).0 ≡ Less → find R q (map entry (e ∷ es)) ≡ None
  find_above q e [] h lt = ap (λ r. cond (is_eq r) (Some (entry e).1) None) lt
  find_above q e (x ∷ es) h lt =
      ap (λ r. cond (is_eq r) (Some (entry e).1) (find R q (map entry (x ∷ es)))) lt
      ∙ find_above q x es (and_parts _ _ h).1 (o.trans q _ _ lt (less _ (and_parts _ _ (and_parts _ _ h).0).0))

  -- the entry at the place of q is what is found, where its key is q's
  pub find_here : (q : K) (es : List X) (i : ℕ) (e : X) → i < length es → drop i es ≡ e ∷ drop (i + 1) es → AllWithin (Before q) es 0 i → eq_by_cmp R q (entry e).0 ≡ true → find R q (map entry es) ≡ Some (entry e).1
  find_here q es i e lt at before same =
      find_past q es i (omega arith) before
      ∙ ap (λ xs. find R q (map entry xs)) at
      ∙ ap (λ b. cond b (Some (entry e).1) (find R q (map entry (drop (i + 1) es)))) same

  -- and else nothing is found
  pub find_other : (q : K) (es : List X) (i : ℕ) (e : X) → i < length es → drop i es ≡ e ∷ drop (i + 1) es → is_sorted R (map entry es) ≡ true → AllWithin (Before q) es 0 i → NotBefore q e → eq_by_cmp R q (entry e).0 ≡ false → find R q (map entry es) ≡ None
  find_other q es i e lt at sorted before after other =
      let turn : R q (entry e).0 ≡ ordering_reverse (R (entry e).0 q) = o.antisymm q (entry e).0 in
      let lower : R q (entry e).0 ≡ Less = turn ∙ above (R (entry e).0 q) after (ap is_eq (sym turn) ∙ other) in
      find_past q es i (omega arith) before
      ∙ ap (λ xs. find R q (map entry xs)) at
      ∙ find_above q e (drop (i + 1) es) (subst (λ xs. is_sorted R (map entry xs) ≡ true) at (is_sorted-drop i es sorted)) lower

  pub find_at_end : (q : K) (es : List X) (i : ℕ) → i ≤ length es → length es ≤ i → AllWithin (Before q) es 0 i → find R q (map entry es) ≡ None
  find_at_end q es i within past before = find_past q es i within before ∙ ap (λ xs. find R q (map entry xs)) (drop_all i es past)

  -- an entry that isn't there goes to its place
  pub put_here : (q : K) (v : V) (es : List X) (i : ℕ) (x : X) → entry x ≡ (q, v) → i ≤ length es → AllWithin (Before q) es 0 i → AllWithin (NotBefore q) es i (length es) → find R q (map entry es) ≡ None → put R q v (map entry es) ≡ map entry (insert es i x)
  put_here q v [] zero x is le before after none = ap (λ y. y ∷ []) (sym is)
  put_here q v (e ∷ es) zero x is le before after none =
      let turn : R q (entry e).0 ≡ ordering_reverse (R (entry e).0 q) = o.antisymm q (entry e).0 in
      let other : eq_by_cmp R q (entry e).0 ≡ false = not_found (eq_by_cmp R q (entry e).0) (entry e).1 (find R q (map entry es)) none in
      let lower : R q (entry e).0 ≡ Less = turn ∙ above (R (entry e).0 q) (after 0 e (omega arith) (omega arith)) (ap is_eq (sym turn) ∙ other) in
      ap (λ r. by_order r ((q, v) ∷ entry e ∷ map entry es) (((entry e).0, v) ∷ map entry es) (entry e ∷ put R q v (map entry es))) lower
      ∙ ap (λ y. y ∷ entry e ∷ map entry es) (sym is)
    where
      not_found : (b : Bool) (w : V) (rest : Option V) → cond b (Some w) rest ≡ None → b ≡ false
      not_found true w rest h = cc
      not_found false w rest h = refl
  put_here q v [] (suc i) x is le before after none = absurd (omega arith)
  put_here q v (e ∷ es) (suc i) x is le before after none =
      let higher : R q (entry e).0 ≡ Greater = turned q (entry e).0 (before 0 e (omega arith) (omega arith)) in
      let none_there : find R q (map entry es) ≡ None = sym (ap (λ r. cond (is_eq r) (Some (entry e).1) (find R q (map entry es))) higher) ∙ none in
      ap (λ r. by_order r ((q, v) ∷ entry e ∷ map entry es) (((entry e).0, v) ∷ map entry es) (entry e ∷ put R q v (map entry es))) higher
      ∙ ap (λ ys. entry e ∷ ys) (put_here q v es i x is (omega arith) (λ k d low high. before (suc k) d (omega arith) (omega arith)) (λ k d low high. after (suc k) d (omega arith) (omega arith)) none_there)

  -- at the place of a key that is found stands its entry
  pub found_here : (q : K) (es : List X) (i : ℕ) (d : X) (v : V) → find R q (map entry es) ≡ Some v → i ≤ length es → is_sorted R (map entry es) ≡ true → AllWithin (Before q) es 0 i → AllWithin (NotBefore q) es i (length es) → (i < length es) × (eq_by_cmp R q (entry (get_or es i d)).0 ≡ true)
  found_here q [] zero d v found le sorted before after = cc
  found_here q (e ∷ es) zero d v found le sorted before after =
      elim (eq_by_cmp R q (entry e).0) as (λ b. eq_by_cmp R q (entry e).0 ≡ b → (0 < length (e ∷ es)) × (b ≡ true)) [
        | true ↦ λ same. (omega arith, refl)
        | false ↦ λ other. let none = find_other q (e ∷ es) 0 e (omega arith) refl sorted before (after 0 e (omega arith) (omega arith)) other in cc
      ] refl
  found_here q [] (suc i) d v found le sorted before after = cc
  found_here q (e ∷ es) (suc i) d v found le sorted before after =
      let past : find R q (map entry (e ∷ es)) ≡ find R q (map entry es) = ap (λ r. cond (is_eq r) (Some (entry e).1) (find R q (map entry es))) (turned q (entry e).0 (before 0 e (omega arith) (omega arith))) in
      let rest = found_here q es i d v (sym past ∙ found) (omega arith) (and_parts _ _ sorted).1 (λ k d low high. before (suc k) d (omega arith) (omega arith)) (λ k d low high. after (suc k) d (omega arith) (omega arith)) in
      (omega (arith, rest.0), rest.1)

  -- an entry that is there gets another value
  pub put_over : (q : K) (v : V) (es : List X) (i : ℕ) (d x : X) → entry x ≡ ((entry (get_or es i d)).0, v) → i < length es → AllWithin (Before q) es 0 i → eq_by_cmp R q (entry (get_or es i d)).0 ≡ true → put R q v (map entry es) ≡ map entry (set es i x)
  put_over q v [] i d x is lt before same = absurd (omega arith)
  put_over q v (e ∷ es) zero d x is lt before same =
      ap (λ r. by_order r ((q, v) ∷ entry e ∷ map entry es) (((entry e).0, v) ∷ map entry es) (entry e ∷ put R q v (map entry es))) (level _ same)
      ∙ ap (λ y. y ∷ map entry es) (sym is)
  put_over q v (e ∷ es) (suc i) d x is lt before same =
      ap (λ r. by_order r ((q, v) ∷ entry e ∷ map entry es) (((entry e).0, v) ∷ map entry es) (entry e ∷ put R q v (map entry es))) (turned q (entry e).0 (before 0 e (omega arith) (omega arith)))
      ∙ ap (λ ys. entry e ∷ ys) (put_over q v es i d x is (omega arith) (λ k d low high. before (suc k) d (omega arith) (omega arith)) same)

  -- and the keys still rise
  pub is_sorted-put_here : (q : K) (v : V) (es ys : List X) → put R q v (map entry es) ≡ map entry ys → is_sorted R (map entry es) ≡ true → is_sorted R (map entry ys) ≡ true
  is_sorted-put_here q v es ys same h = ap (is_sorted R) (sym same) ∙ is_true _ (is_sorted-put R o q v (map entry es) (passed _ h))

-- a front that gives nothing may be left out
pub skip_front : {K V X Y : Type 0} (entry : X → K × V) (h : K × V → Option Y) (es : List X) (i : ℕ) → i ≤ length es → AllWithin (λ x. h (entry x) ≡ None) es 0 i → filter_map h (map entry (drop i es)) ≡ filter_map h (map entry es)
skip_front entry h es zero le nothing = refl
skip_front entry h [] (suc i) le nothing = refl
skip_front entry h (e ∷ es) (suc i) le nothing =
    skip_front entry h es i (omega arith) (λ k d low high. nothing (suc k) d (omega arith) (omega arith))
    ∙ ap (λ y. cons_option y (filter_map h (map entry es))) (sym (nothing 0 e (omega arith) (omega arith)))

-- so may an end
pub skip_end : {K V X Y : Type 0} (entry : X → K × V) (h : K × V → Option Y) (es : List X) (i : ℕ) → AllWithin (λ x. h (entry x) ≡ None) es i (length es) → filter_map h (map entry (take i es)) ≡ filter_map h (map entry es)
skip_end entry h [] zero nothing = refl
skip_end entry h [] (suc i) nothing = refl
skip_end entry h (e ∷ es) zero nothing =
    skip_end entry h es zero (λ k d low high. nothing (suc k) d (omega arith) (omega arith))
    ∙ ap (λ y. cons_option y (filter_map h (map entry es))) (sym (nothing 0 e (omega arith) (omega arith)))
skip_end entry h (e ∷ es) (suc i) nothing =
    ap (cons_option (h (entry e))) (skip_end entry h es i (λ k d low high. nothing (suc k) d (omega arith) (omega arith)))
