-- Tests that are joined.
use Rattle.std.proofs.Common.{◌≡◌, Bool, true, false, cond, ◌&&◌, ◌||◌, not, Result, Ok, Err, refl}
use Rattle.script_text.specs.declared.read.ScriptFault.{ScriptFault}

pub both_true : (a b : Bool) → (a && b) ≡ true → (a ≡ true) × (b ≡ true)
both_true true b h = (refl, h)
both_true false b h = cc

pub and_true : (a b : Bool) → a ≡ true → b ≡ true → (a && b) ≡ true
and_true true b h k = k
and_true false b h k = h

pub both_false : (a b : Bool) → (a || b) ≡ false → (a ≡ false) × (b ≡ false)
both_false true b h = cc
both_false false b h = (refl, h)

pub or_false : (a b : Bool) → a ≡ false → b ≡ false → (a || b) ≡ false
or_false true b h k = h
or_false false b h k = k

pub not_true : (a : Bool) → not a ≡ true → a ≡ false
not_true true h = cc
not_true false h = refl

-- which way a test went
pub when_ok : {A : Type 0} (b : Bool) (e : ScriptFault) (y : Result A ScriptFault) (v : A) → cond b (Err e) y ≡ Ok v → (b ≡ false) × (y ≡ Ok v)
when_ok true e y v h = cc
when_ok false e y v h = (refl, h)
