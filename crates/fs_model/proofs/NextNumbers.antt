-- No change lowers the next file id or the next plan number.
use Rattle.std.proofs.Common.{ℕ, ◌+◌, ◌≤◌, max, Bool, true, false, cond, nat_eq, List, [], ◌∷◌, le_refl, le_trans, sym, subst, arith}
use Rattle.fs_model.specs.declared.setup.Setup.{Setup}
use Rattle.fs_model.specs.declared.change.Change.{Change}
use Rattle.fs_model.specs.declared.reply.Line.{Line}
use Rattle.fs_model.specs.State.{Names, Whole}
use Rattle.fs_model.specs.Changes.{apply, after}
use Rattle.fs_model.specs.Step.{Observation, Run, changes_of}
use Rattle.fs_model.proofs.Named.{Run-names}

-- neither number falls from N to M
pub record Rises (N M : Names) : Type 0 where
  pub id : N.next_id ≤ M.next_id
  pub plan : N.next_plan ≤ M.next_plan

raised : (n m : ℕ) → n ≤ max n m
raised n m = omega arith

-- a number that is raised only where the test fails
raised_unless : (b : Bool) (n m : ℕ) → n ≤ cond b n (max n m)
raised_unless true n m = le_refl n
raised_unless false n m = raised n m

Rises-apply : (c : Change) (N : Names) → Rises N (apply c N)
Rises-apply (Change.Create id p) N = record { id = raised N.next_id (id + 1); plan = le_refl N.next_plan }
Rises-apply (Change.Done id len stored plan) N = record { id = le_refl N.next_id; plan = raised_unless (nat_eq plan 0) N.next_plan (plan + 1) }
Rises-apply (Change.Remove p plan) N = record { id = le_refl N.next_id; plan = raised_unless (nat_eq plan 0) N.next_plan (plan + 1) }
Rises-apply (Change.Move p q plan) N = record { id = le_refl N.next_id; plan = raised_unless (nat_eq plan 0) N.next_plan (plan + 1) }
Rises-apply (Change.Persisted id plan) N = record { id = le_refl N.next_id; plan = raised_unless (nat_eq plan 0) N.next_plan (plan + 1) }
Rises-apply (Change.Mount p s key plan) N = record { id = le_refl N.next_id; plan = raised_unless (nat_eq plan 0) N.next_plan (plan + 1) }
Rises-apply (Change.Loaded id p len) N = record { id = raised N.next_id (id + 1); plan = le_refl N.next_plan }
Rises-apply c N = record { id = le_refl N.next_id; plan = le_refl N.next_plan }

Rises-after : (cs : List Change) (N : Names) → Rises N (after N cs)
Rises-after [] N = record { id = le_refl N.next_id; plan = le_refl N.next_plan }
Rises-after (c ∷ cs) N =
    let one = Rises-apply c N in
    let rest = Rises-after cs (apply c N) in
    record { id = le_trans one.id rest.id; plan = le_trans one.plan rest.plan }

pub next_numbers_rise : (S : Setup) (W V : Whole) (lines : List Line) (os : List Observation) → Run S W lines V os → (W.body.names.next_id ≤ V.body.names.next_id) × (W.body.names.next_plan ≤ V.body.names.next_plan)
next_numbers_rise S W V lines os run =
    let rises = subst (λ N. Rises W.body.names N) (sym (Run-names S W V lines os run)) (Rises-after (changes_of os) W.body.names) in
    (rises.id, rises.plan)
