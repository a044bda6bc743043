-- Keys of objects, as lists of names.
use Rattle.std.specs.Prelude.{ℕ, Bool, true, false, not, ◌&&◌, ◌||◌, List, [], ◌∷◌, nat_eq}
use Rattle.std.specs.Cmp.Lexicographic.{pointwise, slice_cmp}
use Rattle.std.specs.Ordering.{is_lt, nat_cmp}

-- a key in contracts: its names, each as its bytes
abbrev pub KeyNames : Type 0
KeyNames = List (List ℕ)

-- keys are equal name by name
abbrev pub key_eq : KeyNames → KeyNames → Bool
key_eq = pointwise (pointwise nat_eq)

-- the first key stands before the second: they are ordered as lists of names, a prefix first
abbrev pub key_lt : KeyNames → KeyNames → Bool
key_lt k l = is_lt (slice_cmp (slice_cmp nat_cmp) k l)

-- the second key is a prefix of the first as a list of names, equal allowed
abbrev pub is_below : KeyNames → KeyNames → Bool
is_below k [] = true
is_below [] (y ∷ ys) = false
is_below (x ∷ xs) (y ∷ ys) = pointwise nat_eq x y && is_below xs ys

-- one of the two keys is a proper prefix of the other, so that both can't have objects
abbrev pub crosses : KeyNames → KeyNames → Bool
crosses k l = not (key_eq k l) && (is_below k l || is_below l k)
