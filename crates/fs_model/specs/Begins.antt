-- The states that a play begins with, until the program starts workers and mounts stores itself.
use Rattle.std.specs.Prelude.{◌≡◌, true, [], length, replicate}
use Rattle.fs_model.specs.declared.setup.Setup.{Setup}
use Rattle.fs_model.specs.State.{Whole, State}
use Rattle.fs_model.specs.Updates.{change_worker, change_registration}
use Rattle.fs_model.specs.Opening.{fresh_body}

-- worker 1, where it is configured, runs and is known
abbrev pub with_first_worker : State → State
with_first_worker A = change_registration 1 (λ r. record r { known = true }) (change_worker 1 (λ W. record W { running = true }) A)

-- the state over fresh areas, with worker 1 there, over stores with any objects, none of which is loaded
pub record Begins (S : Setup) (W : Whole) : Type 0 where
  pub body : W.body ≡ record (with_first_worker (fresh_body S)) { stores = W.body.stores }
  pub stores : length W.body.stores ≡ S.stores
  pub hands : W.hands ≡ replicate 64 []
