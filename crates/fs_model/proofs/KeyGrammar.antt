-- A text spells a key exactly where it is the text of that key.
use Rattle.std.proofs.Common.{◌≡◌, ℕ, zero, suc, pred, ◌≤◌, Bool, true, false, cond, ◌&&◌, ◌||◌, List, [], ◌∷◌, ◌++◌, length, drop, Some, None, refl, sym, ap, ◌∙◌, subst, arith, eqb, nat_le}
use Rattle.std.proofs.lemmas.Bool.{leb-true}
use Rattle.std.proofs.lemmas.List.{append-nil}
use Rattle.std.proofs.lemmas.List.Splits.{slice_split_none, slice_split_at}
use Rattle.std.proofs.lemmas.List.Elements.{All-from_recursion}
use Rattle.std.proofs.lemmas.Slice.Eq.{bytes_eq-Decides}
use Rattle.std.specs.List.{All, list_all}
use Rattle.std.specs.Str.{bytes_eq}
use Rattle.fs_model.specs.PathForm.{is_name, names_text, path_text, key_text, reserved_name, are_key_names, is_key}
use Rattle.fs_model.specs.PathLength.{path_bytes}
use Rattle.fs_model.specs.PathText.{parts_at}
use Rattle.fs_model.specs.KeyText.{key_parts, read_key}
use Rattle.fs_model.specs.Changes.{key_len}
use Rattle.fs_model.proofs.Grammar.{first_true, second_true, both, slashless, parts_again, text_of}
use Rattle.fs_model.proofs.TextLengths.{key_len-key_text}

-- what a test let through
let_through : {A : Type 0} (b : Bool) (x y : A) → cond b (Some x) None ≡ Some y → (b ≡ true) × (x ≡ y)
let_through true x y h = (refl, cc)
let_through false x y h = cc

-- ---- what is read is spelled so

without_slash : (ns : List (List ℕ)) → drop 1 (path_text ns) ≡ key_text ns
without_slash [] = refl
without_slash (n ∷ ns) = refl

parts_joined : (xs : List ℕ) → key_text (parts_at 47 xs) ≡ xs
parts_joined xs = sym (without_slash (parts_at 47 xs)) ∙ ap (drop 1) (sym (text_of xs (parts_at 47 xs) refl))

key_parts_joined : (text : List ℕ) → text ≡ key_text (key_parts text)
key_parts_joined [] = refl
key_parts_joined (b ∷ rest) = sym (parts_joined (b ∷ rest))

pub key_found : (text : List ℕ) (k : List (List ℕ)) → read_key text ≡ Some k → (is_key k ≡ true) × (text ≡ key_text k)
unfolding read_key
key_found text k h =
    let t = let_through (nat_le (length text) 8192 && are_key_names (key_parts text)) (key_parts text) k h in
    let spelled : text ≡ key_text k = key_parts_joined text ∙ ap key_text t.1 in
    let short : nat_le (length (key_text k)) 8192 ≡ true = subst (λ x. nat_le (length x) 8192 ≡ true) spelled (first_true _ _ t.0) in
    let named : are_key_names k ≡ true = subst (λ x. are_key_names x ≡ true) t.1 (second_true (nat_le (length text) 8192) _ t.0) in
    (both _ _ named short, spelled)

-- ---- what is spelled so is read

-- the parts of a first text without a slash and of names behind slashes
parts_of_front : (n : List ℕ) (ns : List (List ℕ)) → All (λ x. eqb x 47 ≡ false) n → list_all is_name ns ≡ true → parts_at 47 (n ++ names_text ns) ≡ n ∷ ns
parts_of_front n [] plain named = ap (parts_at 47) (append-nil n) ∙ slice_split_none (λ x. eqb x 47) n plain
parts_of_front n (m ∷ ms) plain named =
    slice_split_at (λ x. eqb x 47) n 47 (m ++ names_text ms) plain refl
    ∙ ap (λ (xs : List (List ℕ)). n ∷ xs) (parts_again m ms (first_true (is_name m) (list_all is_name ms) named) (second_true (is_name m) (list_all is_name ms) named))

reserved_slashless : All (λ x. eqb x 47 ≡ false) reserved_name
reserved_slashless = All-from_recursion (λ x. eqb x 47 ≡ false) reserved_name (refl, (refl, (refl, (refl, (refl, (refl, (refl, tt)))))))

-- the first name of a key has no slash
first_slashless : (a b : Bool) (n : List ℕ) → (a ≡ true → All (λ x. eqb x 47 ≡ false) n) → (b ≡ true → n ≡ reserved_name) → (a || b) ≡ true → All (λ x. eqb x 47 ≡ false) n
first_slashless true b n one other h = one refl
first_slashless false b n one other h = subst (λ x. All (λ y. eqb y 47 ≡ false) x) (sym (other h)) reserved_slashless

key_parts_again : (k : List (List ℕ)) → are_key_names k ≡ true → key_parts (key_text k) ≡ k
key_parts_again [] h = refl
key_parts_again ([] ∷ ns) h = cc
key_parts_again ((b ∷ bs) ∷ ns) h =
    let n : List ℕ = b ∷ bs in
    let first = first_true (is_name n || bytes_eq n reserved_name) (list_all is_name ns) h in
    parts_of_front n ns (first_slashless (is_name n) (bytes_eq n reserved_name) n (slashless n) (bytes_eq-Decides n reserved_name).0 first) (second_true (is_name n || bytes_eq n reserved_name) (list_all is_name ns) h)

pub key_again : (k : List (List ℕ)) → is_key k ≡ true → read_key (key_text k) ≡ Some k
unfolding read_key
key_again k h =
    let named = first_true (are_key_names k) (nat_le (length (key_text k)) 8192) h in
    let short = second_true (are_key_names k) (nat_le (length (key_text k)) 8192) h in
    let parts = key_parts_again k named in
    rw (parts, named, short) refl

-- ---- its length

pub key_len-short : (k : List (List ℕ)) → is_key k ≡ true → key_len k ≤ 8192
key_len-short k h = omega (arith, leb-true (length (key_text k)) 8192 (second_true (are_key_names k) _ h), key_len-key_text k)

one_more : (n : ℕ) → pred n ≤ 8192 → n ≤ 8193
one_more zero h = omega arith
one_more (suc n) h = omega arith

pub key_bytes-short : (k : List (List ℕ)) → is_key k ≡ true → path_bytes k ≤ 8193
key_bytes-short [] h = omega arith
key_bytes-short (x ∷ xs) h = one_more (path_bytes (x ∷ xs)) (key_len-short (x ∷ xs) h)
