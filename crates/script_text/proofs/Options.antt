-- What was read in steps.
use Rattle.std.proofs.Common.{◌≡◌, Bool, true, false, cond, Option, Some, None, option_map, option_and_then, Result, Ok, Err, refl}
use Rattle.std.specs.Result.{result_ok}

pub and_then_some : {A B : Type 0} (f : A → Option B) (o : Option A) (v : B) → option_and_then f o ≡ Some v → (x : A) × (o ≡ Some x) × (f x ≡ Some v)
and_then_some f None v h = cc
and_then_some f (Some x) v h = (x, refl, h)

pub map_some : {A B : Type 0} (f : A → B) (o : Option A) (v : B) → option_map f o ≡ Some v → (x : A) × (o ≡ Some x) × (f x ≡ v)
map_some f None v h = cc
map_some f (Some x) v h = (x, refl, cc)

pub ok_of : {A E : Type 0} (r : Result A E) (v : A) → result_ok r ≡ Some v → r ≡ Ok v
ok_of (Ok x) v h = cc
ok_of (Err e) v h = cc

-- what a test lets through
pub let_through : {A : Type 0} (b : Bool) (x v : A) → cond b (Some x) None ≡ Some v → (b ≡ true) × (x ≡ v)
let_through true x v h = (refl, cc)
let_through false x v h = cc
