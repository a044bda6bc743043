-- Which change an accepted event makes, how many calls on the journal's areas it takes, and what is in doubt where the journal fails.
use Rattle.std.specs.Prelude.{ℕ, Bool, true, false, List, [], ◌∷◌, nat_le, Option, Some, None, option_map, option_and_then}
use Rattle.fs_model.specs.declared.setup.Setup.{Setup}
use Rattle.fs_model.specs.declared.event.Event.{Event}
use Rattle.fs_model.specs.declared.path.Path.{Path}
use Rattle.fs_model.specs.declared.change.Change.{Change}
use Rattle.fs_model.specs.declared.change.PlanKind.{PlanKind}
use Rattle.fs_model.specs.State.{State, Doubt, Hand, Hands, PlanRow}
use Rattle.fs_model.specs.Lookups.{plan_at}
use Rattle.fs_model.specs.NamesEvents.{mkdir_change, create_change, rename_change, remove_change, persist_change, mount_change}
use Rattle.fs_model.specs.BytesEvents.{unbroken_at, writer_at, writer_change, job_change}
use Rattle.fs_model.specs.NodesEvents.{seen_change, due, lost_change, checkpoint_calls, actions_left, load_next, Load, loaded_change}

-- ---- the change of an event

-- the change of a Finish
abbrev pub finish_change : State → Hand → Option Change
finish_change A (Hand.Reading s) = None
finish_change A (Hand.Writing w) = Some (writer_change A w)
finish_change A (Hand.Moving m) = None
finish_change A (Hand.Storing j) = Some (job_change A j)

-- the change of a Load's next key, or its end
abbrev pub load_change : Setup → State → PlanRow → Load → Option Change
load_change S A r Load.Nothing = Some (Change.PlanEnd r.number)
load_change S A r (Load.PassOver x) = None
load_change S A r (Load.Take m x) = Some (loaded_change A m x)

-- the end of a plan without an action left
abbrev pub end_change : PlanRow → List Path → Option Change
end_change r [] = Some (Change.PlanEnd r.number)
end_change r (p ∷ ps) = None

-- the change of a Pump, if it makes one
abbrev pub pump_change : Setup → State → PlanRow → Option Change
pump_change S A r = elim r.kind as (λ k. Option Change) [
  | PlanKind.Load ↦ load_change S A r (load_next S A r)
  | _ ↦ end_change r (actions_left A r)
]

-- the one change that an accepted event journals, if it journals one
abbrev pub change_of : Setup → State → Hands → Event → Option Change
change_of S A H (Event.Mkdir p) = mkdir_change A p
change_of S A H (Event.Create l p kind w) = create_change A p
change_of S A H (Event.Rename p q) = rename_change A p q
change_of S A H (Event.Remove p deep) = remove_change A p
change_of S A H (Event.Pin p on) = Some (Change.Pin p on)
change_of S A H (Event.Persist p) = persist_change A p
change_of S A H (Event.Mount p s key) = mount_change A p s key
change_of S A H (Event.Unmount p) = Some (Change.Unmount p)
change_of S A H (Event.Finish l) = option_and_then (finish_change A) (unbroken_at H l)
change_of S A H (Event.Register w) = seen_change A w
change_of S A H Event.Tick = lost_change (due S A)
change_of S A H (Event.Pump n) = option_and_then (pump_change S A) (plan_at A.names n)
change_of S A H e = None

-- ---- the fuse

-- an append takes four calls
abbrev pub calls_of_change : Option Change → ℕ
calls_of_change None = 0
calls_of_change (Some c) = 4

-- the calls on the areas that an event takes
abbrev pub calls_needed : Setup → State → Hands → Event → ℕ
calls_needed S A H Event.Checkpoint = checkpoint_calls A.names
calls_needed S A H e = calls_of_change (change_of S A H e)

-- the fuse, if there is one, lets so many calls pass
abbrev pub fuse_serves : Option ℕ → ℕ → Bool
fuse_serves None n = true
fuse_serves (Some k) n = nat_le n k

-- a fuse never gets longer, and none is made
abbrev pub fuse_shrinks : Option ℕ → Option ℕ → Bool
fuse_shrinks None None = true
fuse_shrinks None (Some n) = false
fuse_shrinks (Some m) None = false
fuse_shrinks (Some m) (Some n) = nat_le n m

-- ---- doubt

-- the bytes that the Finish of a writer gives its file
abbrev pub doubt_bytes : Hands → Event → List ℕ
doubt_bytes H (Event.Finish l) = elim (writer_at H l) [ None ↦ [] | Some w ↦ w.taken ]
doubt_bytes H e = []

-- what is in doubt where the journal fails in the event
abbrev pub doubt_of : Setup → State → Hands → Event → Option Doubt
doubt_of S A H Event.Checkpoint = Some Doubt.InCheckpoint
doubt_of S A H e = option_map (λ c. Doubt.InChange c (doubt_bytes H e)) (change_of S A H e)

-- the change in doubt
abbrev pub doubt_change : Option Doubt → Option Change
doubt_change None = None
doubt_change (Some (Doubt.InChange c bs)) = Some c
doubt_change (Some Doubt.InCheckpoint) = None
