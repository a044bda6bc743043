-- A text spells a path exactly where it is the text of that path.
use Rattle.std.proofs.Common.{◌≡◌, ℕ, ◌+◌, ◌≤◌, Bool, true, false, not, cond, ◌&&◌, List, [], ◌∷◌, ◌++◌, length, Result, Ok, Err, refl, sym, ap, ◌∙◌, subst, arith, eqb, nat_lt, nat_le, le-ltb, ◌==◌}
use Rattle.std.proofs.lemmas.Bool.{eqb-true, ltb-false, leb-true, le-leb}
use Rattle.std.proofs.lemmas.List.{append-nil}
use Rattle.std.proofs.lemmas.List.Splits.{slice_split_none, slice_split_at, join_with_byte-slice_split, length-slice_split}
use Rattle.std.proofs.lemmas.List.Elements.{All-from_recursion}
use Rattle.std.specs.List.{All, AllByRecursion, list_all, join_with_byte}
use Rattle.fs_model.specs.declared.path.PathFault.{PathFault}
use Rattle.fs_model.specs.declared.path.PathFault.TheVariants.{TooLong, BadName}
use Rattle.fs_model.specs.PathForm.{is_name, is_name_byte, names_text, path_text, is_path}
use Rattle.fs_model.specs.PathText.{names_of, onto, parts_at, spelled, read_path}

pub first_true : (a b : Bool) → (a && b) ≡ true → a ≡ true
first_true true b h = refl
first_true false b h = cc

pub second_true : (a b : Bool) → (a && b) ≡ true → b ≡ true
second_true true b h = h
second_true false b h = cc

pub both : (a b : Bool) → a ≡ true → b ≡ true → (a && b) ≡ true
both true b h k = k
both false b h k = h

-- what was read is the parts, each of them a name
onto_ok : (p : List ℕ) (r : Result (List (List ℕ)) PathFault) (ns : List (List ℕ)) → onto p r ≡ Ok ns → (ms : List (List ℕ)) × (r ≡ Ok ms) × (ns ≡ p ∷ ms)
onto_ok p (Ok ms) ns h = (ms, refl, cc)
onto_ok p (Err e) ns h = cc

tested : (b : Bool) (p : List ℕ) (r : Result (List (List ℕ)) PathFault) (e : PathFault) (ns : List (List ℕ)) → cond b (onto p r) (Err e) ≡ Ok ns → (b ≡ true) × (onto p r ≡ Ok ns)
tested true p r e ns h = (refl, h)
tested false p r e ns h = cc

pub parts_are : (i : ℕ) (ps ns : List (List ℕ)) → names_of i ps ≡ Ok ns → (ns ≡ ps) × (list_all is_name ns ≡ true)
unfolding names_of
parts_are i [] ns h = let e : [] ≡ ns = cc in (sym e, subst (λ x. list_all is_name x ≡ true) e refl)
parts_are i (p ∷ ps) ns h =
    let t = tested (is_name p) p (names_of (i + 1) ps) (BadName i) ns h in
    let o = onto_ok p (names_of (i + 1) ps) ns t.1 in
    let r = parts_are (i + 1) ps o.0 o.1 in
    (o.2 ∙ ap (λ (x : List (List ℕ)). p ∷ x) r.0, subst (λ x. list_all is_name x ≡ true) (sym o.2) (subst (λ b. (b && list_all is_name o.0) ≡ true) (sym t.0) r.1))

-- names behind slashes are names joined by slashes, behind one
joined : (n : List ℕ) (ns : List (List ℕ)) → names_text (n ∷ ns) ≡ 47 ∷ join_with_byte 47 (n ∷ ns)
joined n [] = ap (λ (x : List ℕ). 47 ∷ x) (append-nil n)
joined n (m ∷ ms) = ap (λ (x : List ℕ). 47 ∷ n ++ x) (joined m ms)

-- reading names that are names
pub names_again : (i : ℕ) (ns : List (List ℕ)) → list_all is_name ns ≡ true → names_of i ns ≡ Ok ns
unfolding names_of
names_again i [] h = refl
names_again i (n ∷ ns) h = rw (first_true (is_name n) (list_all is_name ns) h, names_again (i + 1) ns (second_true (is_name n) (list_all is_name ns) h)) refl

no_slash : (n : List ℕ) → list_all is_name_byte n ≡ true → AllByRecursion (λ x. eqb x 47 ≡ false) n
no_slash [] h = tt
no_slash (b ∷ bs) h =
    let here = first_true (is_name_byte b) (list_all is_name_byte bs) h in
    (negated (eqb b 47) (not (eqb b 0)) here, no_slash bs (second_true (is_name_byte b) (list_all is_name_byte bs) h))
  where
    negated : (s z : Bool) → (not s && z) ≡ true → s ≡ false
    negated true z k = cc
    negated false z k = refl

-- a name has no slash
name_bytes : (n : List ℕ) → is_name n ≡ true → list_all is_name_byte n ≡ true
name_bytes n h =
    let a = first_true _ _ h in
    let b = first_true _ _ a in
    second_true _ _ b

pub slashless : (n : List ℕ) → is_name n ≡ true → All (λ x. eqb x 47 ≡ false) n
slashless n h = All-from_recursion (λ x. eqb x 47 ≡ false) n (no_slash n (name_bytes n h))

-- the parts of names joined by slashes are these names
pub parts_again : (n : List ℕ) (ns : List (List ℕ)) → is_name n ≡ true → list_all is_name ns ≡ true → parts_at 47 (n ++ names_text ns) ≡ n ∷ ns
parts_again n [] h k = ap (parts_at 47) (append-nil n) ∙ slice_split_none (λ x. eqb x 47) n (slashless n h)
parts_again n (m ∷ ms) h k =
    slice_split_at (λ x. eqb x 47) n 47 (m ++ names_text ms) (slashless n h) refl
    ∙ ap (λ (xs : List (List ℕ)). n ∷ xs) (parts_again m ms (first_true (is_name m) (list_all is_name ms) k) (second_true (is_name m) (list_all is_name ms) k))

-- what is spelled, read again
spelled_again : (ns : List (List ℕ)) → list_all is_name ns ≡ true → spelled (path_text ns) ≡ Ok ns
spelled_again [] h = refl
spelled_again ([] ∷ ns) h = cc
spelled_again ((b ∷ bs) ∷ ns) h =
    ap (names_of 0) (parts_again (b ∷ bs) ns (first_true (is_name (b ∷ bs)) (list_all is_name ns) h) (second_true (is_name (b ∷ bs)) (list_all is_name ns) h))
    ∙ names_again 0 ((b ∷ bs) ∷ ns) h

pub is_short : (ns : List (List ℕ)) → is_path ns ≡ true → length (path_text ns) ≤ 4096
is_short ns p = leb-true (length (path_text ns)) 4096 (second_true _ _ p)

short_enough : (n : ℕ) → n ≤ 4096 → nat_lt 4096 n ≡ false
short_enough n h = le-ltb 4096 n h

pub read_again : (ns : List (List ℕ)) → is_path ns ≡ true → read_path (path_text ns) ≡ Ok ns
read_again ns p = rw (short_enough (length (path_text ns)) (is_short ns p)) (spelled_again ns (first_true _ _ p))

-- which way a test went
when_ok : {A : Type 0} (b : Bool) (x y : Result A PathFault) (v : A) → ((w : A) → x ≡ Ok w → ⊥) → cond b x y ≡ Ok v → (b ≡ false) × (y ≡ Ok v)
when_ok true x y v no_ok h = absurd (no_ok v h)
when_ok false x y v no_ok h = (refl, h)

when_true : {A : Type 0} (b : Bool) (x : Result A PathFault) (e : PathFault) (v : A) → cond b x (Err e) ≡ Ok v → (b ≡ true) × (x ≡ Ok v)
when_true true x e v h = (refl, h)
when_true false x e v h = cc

pub text_of : (xs : List ℕ) (ns : List (List ℕ)) → ns ≡ parts_at 47 xs → 47 ∷ xs ≡ path_text ns
text_of xs [] h = absurd (omega (arith, length-slice_split (λ x. eqb x 47) xs, ap length h))
text_of xs (n ∷ ns) h = ap (λ (x : List ℕ). 47 ∷ x) (sym (join_with_byte-slice_split 47 xs) ∙ ap (join_with_byte 47) (sym h)) ∙ sym (joined n ns)

spelled_found : (text : List ℕ) (ns : List (List ℕ)) → spelled text ≡ Ok ns → (list_all is_name ns ≡ true) × (text ≡ path_text ns)
spelled_found [] ns h = cc
spelled_found (b ∷ []) ns h =
    let t = when_true (b == 47) (Ok []) (BadName 0) ns h in
    let e : [] ≡ ns = let k = t.1 in cc in
    (subst (λ x. list_all is_name x ≡ true) e refl, subst (λ x. b ∷ [] ≡ path_text x) e (ap (λ (x : ℕ). x ∷ []) (eqb-true b 47 t.0)))
spelled_found (b ∷ c ∷ rest) ns h =
    let t = when_true (b == 47) (names_of 0 (parts_at 47 (c ∷ rest))) (BadName 0) ns h in
    let p = parts_are 0 (parts_at 47 (c ∷ rest)) ns t.1 in
    (p.1, ap (λ (x : ℕ). x ∷ c ∷ rest) (eqb-true b 47 t.0) ∙ text_of (c ∷ rest) ns p.0)

pub read_found : (text : List ℕ) (ns : List (List ℕ)) → read_path text ≡ Ok ns → (is_path ns ≡ true) × (text ≡ path_text ns)
read_found text ns h =
    let t = when_ok (nat_lt 4096 (length text)) (Err TooLong) (spelled text) ns (λ w k. cc) h in
    let f = spelled_found text ns t.1 in
    let few : length text ≤ 4096 = ltb-false 4096 (length text) t.0 in
    let short : length (path_text ns) ≤ 4096 = subst (λ x. length x ≤ 4096) f.1 few in
    (both (list_all is_name ns) (nat_le (length (path_text ns)) 4096) f.0 (le-leb (length (path_text ns)) 4096 short), f.1)
