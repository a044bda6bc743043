-- Equal labels.
use Rattle.std.proofs.Common.{◌≡◌, ℕ, true, false, List, sym, ap, ◌∙◌}
use Rattle.std.specs.Cmp.Lexicographic.{bytes_decides, nat_list_eq_equiv}
use Rattle.fs_model.specs.Words.{name_eq}

-- the test passes at equal labels alone
pub alike : (a b : List ℕ) → name_eq a b ≡ true → a ≡ b
alike a b same = (bytes_decides a b).0 same

-- a label passes against itself
pub like_itself : (a : List ℕ) → name_eq a a ≡ true
like_itself a = nat_list_eq_equiv.refl a

-- the sides may change places
pub turned : (a b : List ℕ) → name_eq a b ≡ name_eq b a
turned a b = nat_list_eq_equiv.symm a b

-- two labels that are as a third are as each other
pub both_like : (a b l : List ℕ) → name_eq a l ≡ true → name_eq b l ≡ true → name_eq a b ≡ true
both_like a b l first second = ap (name_eq a) (alike b l second) ∙ first

-- equal labels are like and unlike the same
pub like_the_same : (a l m : List ℕ) → name_eq a l ≡ true → name_eq a m ≡ name_eq l m
like_the_same a l m same = ap (λ k. name_eq k m) (alike a l same)

-- what is as one label isn't as another
pub apart : (a l m : List ℕ) → name_eq a l ≡ false → name_eq a m ≡ true → name_eq l m ≡ false
apart a l m other same = ap (name_eq l) (sym (alike a m same)) ∙ turned l a ∙ other
