-- Tests that pass together.
use Rattle.std.proofs.Common.{◌≡◌, Bool, true, false, ◌&&◌, refl}

pub first_is : (a b : Bool) → (a && b) ≡ true → a ≡ true
first_is true b h = refl
first_is false b h = cc

pub second_is : (a b : Bool) → (a && b) ≡ true → b ≡ true
second_is true b h = h
second_is false b h = cc

pub both_are : (a b : Bool) → a ≡ true → b ≡ true → (a && b) ≡ true
both_are true b h k = k
both_are false b h k = h
