-- What tests of keys say, and tests of tests.
use Rattle.std.proofs.Common.{◌≡◌, Bool, true, false, ◌⊎◌, inl, inr, refl}
use Rattle.std.specs.Prelude.{◌&&◌, ◌||◌}
use Rattle.std.specs.Cmp.Lexicographic.{pointwise_decides, bytes_decides}
use Rattle.outside.specs.Keys.{KeyNames, key_eq}

-- keys that pass the test are the same
pub key_same : (k l : KeyNames) → key_eq k l ≡ true → k ≡ l
key_same k l = (pointwise_decides bytes_decides k l).0

pub key_self : (k : KeyNames) → key_eq k k ≡ true
key_self k = (pointwise_decides bytes_decides k k).1 refl

pub true_or_false : (b : Bool) → (b ≡ true) ⊎ (b ≡ false)
true_or_false true = inl refl
true_or_false false = inr refl

pub or_true : (a : Bool) → (a || true) ≡ true
or_true true = refl
or_true false = refl

pub both_true : (a b : Bool) → (a && b) ≡ true → (a ≡ true) × (b ≡ true)
both_true true b h = (refl, h)
both_true false b h = cc
