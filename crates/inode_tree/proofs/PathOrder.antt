-- Paths in their order: where the paths below one stand.
use Rattle.std.proofs.Common.{◌≡◌, ◌+◌, ◌-◌, ◌≤◌, true, false, cond, ◌&&◌, [], ◌∷◌, ◌++◌, length, take, get_or, Some, None, Ordering, nat_eq, refl, sym, ap, ◌∙◌, arith}
use Rattle.std.specs.declared.cmp.Ordering.TheVariants.{Less, Equal, Greater}
use Rattle.std.specs.Ordering.{is_lt, is_eq, ordering_then}
use Rattle.std.specs.Cmp.{tied_back}
use Rattle.std.specs.Cmp.Lexicographic.{pointwise, bytes_decides, texts_ties, nat_list_cmp_total, nat_list_eq_equiv}
use Rattle.std.proofs.lemmas.Bool.{and_parts}
use Rattle.std.proofs.lemmas.List.{take_more, take_all}
use Rattle.fs_model.specs.declared.path.Path.{Path}
use Rattle.fs_model.specs.declared.name.Name.{Name}
use Rattle.fs_model.specs.Words.{name_eq, name_cmp, path_cmp, path_lt, under}
use Rattle.fs_model.specs.Lookups.{child_name}

tied : (r : Ordering) → is_eq r ≡ true → r ≡ Equal
tied Less h = cc
tied Equal h = refl
tied Greater h = cc

-- equal names tie
level : (a b : Name) → name_eq a b ≡ true → name_cmp b a ≡ Equal
level a b same = tied_back nat_list_cmp_total a b (tied _ (sym (texts_ties a b) ∙ same))

-- the name after the front is a child's, where the front is the path
child_name-end : (p front : Path) (n : Name) → child_name p (front ++ n ∷ []) ≡ cond (pointwise (pointwise nat_eq) p front) (Some n) None
child_name-end [] [] n = refl
child_name-end [] (x ∷ []) n = refl
child_name-end [] (x ∷ y ∷ ys) n = refl
child_name-end (a ∷ []) [] n = elim (name_eq a n) as (λ b. cond b (child_name [] []) None ≡ None) [ true ↦ refl | false ↦ refl ]
child_name-end (a ∷ b ∷ bs) [] n = elim (name_eq a n) as (λ t. cond t (child_name (b ∷ bs) []) None ≡ None) [ true ↦ refl | false ↦ refl ]
child_name-end (a ∷ as') (x ∷ xs) n =
    elim (name_eq a x) as (λ t. cond t (child_name as' (xs ++ n ∷ [])) None ≡ cond (t && pointwise (pointwise nat_eq) as' xs) (Some n) None) [
      | true ↦ child_name-end as' xs n
      | false ↦ refl
    ]

-- a path is its front and its last name
from_front : (x : Path) (n : Name) → 1 ≤ length x → n ≡ get_or x (length x - 1) n → x ≡ take (length x - 1) x ++ n ∷ []
from_front x n long last =
    let whole : take (length x - 1 + 1) x ≡ take (length x - 1) x ++ get_or x (length x - 1) n ∷ [] = take_more x (length x - 1) n (omega arith) in
    sym (take_all (length x - 1 + 1) x (omega arith)) ∙ whole ∙ ap (λ m. take (length x - 1) x ++ m ∷ []) (sym last)

pub child_of_end : (p x : Path) (n : Name) → 1 ≤ length x → n ≡ get_or x (length x - 1) n → true ≡ pointwise (pointwise nat_eq) p (take (length x - 1) x) → Some n ≡ child_name p x
child_of_end p x n long last same = ap (λ b. cond b (Some n) None) same ∙ sym (ap (child_name p) (from_front x n long last) ∙ child_name-end p (take (length x - 1) x) n)

pub other_end : (p x : Path) (n : Name) → 1 ≤ length x → n ≡ get_or x (length x - 1) n → false ≡ pointwise (pointwise nat_eq) p (take (length x - 1) x) → None ≡ child_name p x
other_end p x n long last other = ap (λ b. cond b (Some n) None) other ∙ sym (ap (child_name p) (from_front x n long last) ∙ child_name-end p (take (length x - 1) x) n)

pub child_name-nil : (p : Path) → child_name p [] ≡ None
child_name-nil [] = refl
child_name-nil (a ∷ as') = refl

-- what comes before a path isn't right below it
pub no_child_before : (p x : Path) → path_lt x p ≡ true → child_name p x ≡ None
no_child_before [] [] h = cc
no_child_before [] (x ∷ xs) h = cc
no_child_before (a ∷ as') [] h = refl
no_child_before (a ∷ as') (c ∷ cs) h =
    elim (name_eq a c) as (λ t. name_eq a c ≡ t → cond t (child_name as' cs) None ≡ None) [
      | true ↦ λ same. no_child_before as' cs (ap (λ r. is_lt (ordering_then r (path_cmp cs as'))) (sym (level a c same)) ∙ h)
      | false ↦ λ other. refl
    ] refl

-- what isn't under a path isn't right below it
pub no_child_apart : (p x : Path) → under x p ≡ false → child_name p x ≡ None
no_child_apart [] [] h = cc
no_child_apart [] (x ∷ xs) h = cc
no_child_apart (a ∷ as') [] h = refl
no_child_apart (a ∷ as') (c ∷ cs) h =
    elim (name_eq a c) as (λ t. name_eq a c ≡ t → cond t (child_name as' cs) None ≡ None) [
      | true ↦ λ same. no_child_apart as' cs (ap (λ t. t && under cs as') (sym (nat_list_eq_equiv.symm c a ∙ same)) ∙ h)
      | false ↦ λ other. refl
    ] refl

-- what stands between a path and one that is under it is under it
pub under_between : (p x y : Path) → path_lt x p ≡ false → path_cmp x y ≡ Less → under y p ≡ true → under x p ≡ true
under_between [] x y not_before lower below = refl
under_between (a ∷ as') x [] not_before lower below = cc
under_between (a ∷ as') [] (b ∷ bs) not_before lower below = cc
under_between (a ∷ as') (c ∷ cs) (b ∷ bs) not_before lower below =
    let parts = and_parts (name_eq b a) (under bs as') below in
    let same : b ≡ a = (bytes_decides b a).0 parts.0 in
    let lower_here : ordering_then (name_cmp c a) (path_cmp cs bs) ≡ Less = ap (λ n. ordering_then (name_cmp c n) (path_cmp cs bs)) (sym same) ∙ lower in
    elim (name_cmp c a) as (λ r. name_cmp c a ≡ r → is_lt (ordering_then r (path_cmp cs as')) ≡ false → ordering_then r (path_cmp cs bs) ≡ Less → (name_eq c a && under cs as') ≡ true) [
      | Less ↦ λ is n l. cc
      | Equal ↦ λ is n l. ap (λ t. t && under cs as') (texts_ties c a ∙ ap is_eq is) ∙ under_between as' cs bs n l parts.1
      | Greater ↦ λ is n l. cc
    ] refl not_before lower_here
