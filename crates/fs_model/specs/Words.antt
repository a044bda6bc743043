-- Small words on lists, paths and choices that the other definitions share.
use Rattle.std.specs.Prelude.{ℕ, zero, suc, ◌%◌, ◌++◌, ◌+◌, ◌-◌, ◌/◌, ◌*◌, min, Bool, true, false, cond, ◌&&◌, List, [], ◌∷◌, map, take, drop, get_or, set, nat_eq, nat_lt, Option, Some, None}
use Rattle.std.specs.Cmp.Lexicographic.{slice_cmp}
use Rattle.std.specs.Ordering.{is_lt, nat_cmp}
use Rattle.std.specs.declared.cmp.Ordering.{Ordering}
use Rattle.std.specs.Str.{bytes_eq}
pub use Rattle.fs_model.specs.PathLength.{path_bytes, path_len}
use Rattle.fs_model.specs.declared.path.Path.{Path}
use Rattle.fs_model.specs.declared.name.Name.{Name}

-- names are equal byte for byte
abbrev pub name_eq : Name → Name → Bool
name_eq = bytes_eq

-- p is under q: q is a prefix of p as a list of names, equal allowed
abbrev pub under : Path → Path → Bool
under p [] = true
under [] (y ∷ ys) = false
under (x ∷ xs) (y ∷ ys) = name_eq x y && under xs ys

-- paths are equal name by name
abbrev pub path_eq : Path → Path → Bool
path_eq [] [] = true
path_eq [] (y ∷ ys) = false
path_eq (x ∷ xs) [] = false
path_eq (x ∷ xs) (y ∷ ys) = name_eq x y && path_eq xs ys

-- the proper prefixes of p, from the root
abbrev pub parts : Path → List Path
parts [] = []
parts (x ∷ xs) = [] ∷ map (λ p. x ∷ p) (parts xs)

-- names and paths are ordered by their bytes, a prefix first
abbrev pub name_cmp : Name → Name → Ordering
name_cmp = slice_cmp nat_cmp

-- paths are ordered as lists of names
abbrev pub path_cmp : Path → Path → Ordering
path_cmp = slice_cmp name_cmp

-- p stands before q
abbrev pub path_lt : Path → Path → Bool
path_lt p q = is_lt (path_cmp p q)

-- x stands at its place by the order of the paths
abbrev pub put_in_order : {X : Type 0} → (X → Path) → X → List X → List X
put_in_order key x [] = x ∷ []
put_in_order key x (y ∷ ys) = cond (path_lt (key x) (key y)) (x ∷ y ∷ ys) (y ∷ put_in_order key x ys)

-- n joins the rising numbers, once
abbrev pub put_number : ℕ → List ℕ → List ℕ
put_number n [] = n ∷ []
put_number n (m ∷ ms) = cond (nat_lt n m) (n ∷ m ∷ ms) (cond (nat_eq n m) (m ∷ ms) (m ∷ put_number n ms))

-- the first of the answers that is there
abbrev pub first : {X : Type 0} → List (Option X) → Option X
first [] = None
first (Some x ∷ xs) = Some x
first (None ∷ xs) = first xs

infix 6 ◌when◌
-- the answer r where the test passes
abbrev pub ◌when◌ : {X : Type 0} → X → Bool → Option X
r when true = Some r
r when false = None

-- the answers that are there
abbrev pub option_list : {X : Type 0} → List (Option X) → List X
option_list [] = []
option_list (Some x ∷ xs) = x ∷ option_list xs
option_list (None ∷ xs) = option_list xs

-- each element that passes the test is changed
abbrev pub update_where : {X : Type 0} → (X → Bool) → (X → X) → List X → List X
update_where test change xs = map (λ x. cond (test x) (change x) x) xs

-- the element at this place is changed
abbrev pub update_at : {X : Type 0} → ℕ → X → (X → X) → List X → List X
update_at i d change xs = set xs i (change (get_or xs i d))

-- a file of len bytes has so many blocks of bs bytes, the last perhaps shorter
abbrev pub block_count : ℕ → ℕ → ℕ
block_count len bs = (len + bs - 1) / bs

-- the bytes of block i
abbrev pub block_of : List ℕ → ℕ → ℕ → List ℕ
block_of bytes i bs = take bs (drop (i * bs) bytes)

-- the length of block i of a file of len bytes
abbrev pub block_len : ℕ → ℕ → ℕ → ℕ
block_len len i bs = min bs (len - i * bs)

-- the digits of n in so many steps
abbrev pub digits_within : ℕ → ℕ → Name
digits_within zero n = []
digits_within (suc k) n = cond (nat_lt n 10) ((48 + n) ∷ []) (digits_within k (n / 10) ++ (48 + n % 10) ∷ [])

-- n written as a number, without needless zeros; std's `decimal` doesn't compute outside its module
abbrev pub number_text : ℕ → Name
number_text n = digits_within (suc n) n
