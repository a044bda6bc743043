-- A path with another front: its text, and that it is a path.
use Rattle.std.proofs.Common.{◌+◌, ◌≡◌, ℕ, zero, suc, ◌≤◌, true, false, ◌==◌, nat_le, List, [], ◌∷◌, ◌++◌, length, drop, Option, Some, None, is_some, option_map, unwrap_or, Result, Ok, Err, refl, sym, ap, ◌∙◌, subst, arith, append_assoc}
use Rattle.std.specs.List.{list_all}
use Rattle.std.proofs.lemmas.Bool.{and_parts}
use Rattle.fs_model.specs.declared.path.Path.{Path}
use Rattle.fs_model.specs.declared.path.PathFault.{PathFault}
use Rattle.fs_model.specs.PathForm.{is_name, is_path, names_text, path_text}
use Rattle.fs_model.specs.PathText.{Fails}
use Rattle.fs_model.specs.State.{Node}
use Rattle.fs_model.specs.Words.{name_eq, under, path_len}
use Rattle.fs_model.specs.PathLength.{path_bytes}
use Rattle.fs_model.proofs.TextLengths.{path_len-path_text}
use Rattle.fs_model.proofs.ShortPaths.{path_bytes-short}
use Rattle.inode_tree.specs.Rows.{file_id}
use Rattle.inode_tree.proofs.Numbers.{both}

-- a path is no shorter than one that it is under
pub under_length : (p q : Path) → under p q ≡ true → length q ≤ length p
under_length p [] h = omega arith
under_length [] (y ∷ ys) h = absurd (cc)
under_length (x ∷ xs) (y ∷ ys) h = let rest = under_length xs ys (and_parts (name_eq x y) (under xs ys) h).1 in omega (arith, rest)

text_append : (a b : List (List ℕ)) → names_text (a ++ b) ≡ names_text a ++ names_text b
text_append [] b = refl
text_append (n ∷ a) b = ap (λ t. (47 ∷ n) ++ t) (text_append a b) ∙ sym (append_assoc (47 ∷ n) (names_text a) (names_text b))

-- the text of both parts, one behind the other
pub text_is : (start first whole : List ℕ) (a b to rest : List (List ℕ)) → start ≡ [] → first ≡ start ++ names_text a → whole ≡ first ++ names_text b → a ≡ to → b ≡ rest → whole ≡ names_text (to ++ rest)
text_is start first whole a b to rest none front all own more =
    all ∙ (λ i. (front ∙ ap (λ s. s ++ names_text a) none) i ++ names_text b) ∙ (λ i. names_text (own i) ++ names_text (more i)) ∙ sym (text_append to rest)

-- where it isn't empty it is a path's
pub path_text_is : (ns : List (List ℕ)) (ds items : List ℕ) (n : ℕ) → ds ≡ items → items ≡ names_text ns → length ds ≡ n → false ≡ (n == 0) → ds ≡ path_text ns
path_text_is (x ∷ xs) ds items n read is long some = read ∙ is
path_text_is [] ds items n read is long some = absurd (empty (ap length (sym (read ∙ is)) ∙ long) some)
  where
    empty : 0 ≡ n → false ≡ (n == 0) → ⊥
    empty none test = never (test ∙ ap (λ m. m == 0) (sym none))
      where
        never : false ≡ true → ⊥
        never h = cc

all_drop : (k : ℕ) (ns : List (List ℕ)) → list_all is_name ns ≡ true → list_all is_name (drop k ns) ≡ true
all_drop zero ns h = h
all_drop (suc k) [] h = h
all_drop (suc k) (n ∷ ns) h = all_drop k ns (and_parts (is_name n) (list_all is_name ns) h).1

all_append : (a b : List (List ℕ)) → list_all is_name a ≡ true → list_all is_name b ≡ true → list_all is_name (a ++ b) ≡ true
all_append [] b h k = k
all_append (n ∷ a) b h k =
    let split = and_parts (is_name n) (list_all is_name a) h in
    both (is_name n) (list_all is_name (a ++ b)) split.0 (all_append a b split.1 k)

passes_le : (m n : ℕ) → m ≤ n → nat_le m n ≡ true
passes_le m n le = grind (arith, le)

-- a path with another front is a path where it isn't too long
pub is_path_still : (to path : Path) (k : ℕ) → is_path to ≡ true → is_path path ≡ true → path_len (to ++ drop k path) ≤ 4096 → is_path (to ++ drop k path) ≡ true
is_path_still to path k front whole short =
    let first = (and_parts (list_all is_name to) (nat_le (length (path_text to)) 4096) front).0 in
    let all = (and_parts (list_all is_name path) (nat_le (length (path_text path)) 4096) whole).0 in
    both (list_all is_name (to ++ drop k path)) (nat_le (length (path_text (to ++ drop k path))) 4096)
    (all_append to (drop k path) first (all_drop k path all))
    (passes_le (length (path_text (to ++ drop k path))) 4096 (omega (arith, short, path_len-path_text (to ++ drop k path))))

-- what was read is it
pub path_read : (a b : Path) → ◌≡◌ {A = Result Path PathFault} (Ok a) (Ok b) → b ≡ a
path_read a b h = sym (ap read_or h)
  where
    read_or : Result Path PathFault → Path
    read_or (Ok p) = p
    read_or (Err e) = a

-- and no fault but want of memory
pub not_too_long : (e : PathFault) (p : Path) → e ≡ PathFault.TooLong → Fails e (Ok p) → ⊥
not_too_long e p is fails = never (subst (λ f. Fails f (Ok p)) is fails)
  where
    never : ◌≡◌ {A = Result Path PathFault} (Ok p) (Err PathFault.TooLong) → ⊥
    never h = cc

pub not_bad : (e : PathFault) (n : ℕ) (p : Path) → e ≡ PathFault.BadName n → Fails e (Ok p) → ⊥
not_bad e n p is fails = never (subst (λ f. Fails f (Ok p)) is fails)
  where
    never : ◌≡◌ {A = Result Path PathFault} (Ok p) (Err (PathFault.BadName n)) → ⊥
    never h = cc

-- ---- lengths

bytes_append : (a b : List (List ℕ)) → path_bytes (a ++ b) ≡ path_bytes a + path_bytes b
bytes_append [] b = omega arith
bytes_append (n ∷ a) b = let rest = bytes_append a b in omega (arith, rest)

bytes_drop : (k : ℕ) (ns : List (List ℕ)) → path_bytes (drop k ns) ≤ path_bytes ns
bytes_drop zero ns = omega arith
bytes_drop (suc k) [] = omega arith
bytes_drop (suc k) (n ∷ ns) = let rest = bytes_drop k ns in omega (arith, rest)

-- names of a path, and of its end, are few
pub few : (p : Path) (ns : List (List ℕ)) → ns ≡ p → is_path p ≡ true → path_bytes ns ≤ 4096
few p ns own h = let le = path_bytes-short p h in subst (λ ms. path_bytes ms ≤ 4096) (sym own) le

pub few_behind : (p : Path) (k : ℕ) (ns : List (List ℕ)) → ns ≡ drop k p → is_path p ≡ true → path_bytes ns ≤ 4096
few_behind p k ns own h =
    let le = path_bytes-short p h in
    let rest = bytes_drop k p in
    subst (λ ms. path_bytes ms ≤ 4096) (sym own) (omega (arith, le, rest))

-- names are as short as their path
short_names : (ns : List (List ℕ)) → nat_le (path_bytes ns) 4096 ≡ nat_le (path_len ns) 4096
short_names [] = refl
short_names (x ∷ xs) = refl

pub is_short_still : (m n : ℕ) (a b to rest : List (List ℕ)) → m ≡ path_bytes a → n ≡ path_bytes b → a ≡ to → b ≡ rest → nat_le (m + n) 4096 ≡ nat_le (path_len (to ++ rest)) 4096
is_short_still m n a b to rest first second own more =
    let whole = bytes_append to rest in
    (λ i. nat_le ((first ∙ ap path_bytes own) i + (second ∙ ap path_bytes more) i) 4096) ∙ ap (λ k. nat_le k 4096) (sym whole) ∙ short_names (to ++ rest)

-- ---- a node that is found, or not

pub found_id : (o : Option Node) → is_some o ≡ true → option_map file_id o ≡ Some (file_id (unwrap_or o Node.Directory))
found_id None h = absurd (cc)
found_id (Some n) h = refl

pub found_none : (o : Option Node) → is_some o ≡ false → o ≡ None
found_none None h = refl
found_none (Some n) h = absurd (cc)
