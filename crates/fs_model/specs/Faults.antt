-- Which devices an event calls, which of them may fail it, and what their faults leave.
use Rattle.std.specs.Prelude.{ℕ, pred, ◌-◌, ◌/◌, Bool, true, false, cond, not, ◌&&◌, ◌||◌, List, [], ◌∷◌, length, get_or, nat_eq, nat_lt, nat_le, Option, Some, None, is_some, is_none, option_map, option_and_then}
use Rattle.std.specs.List.{list_any, list_all, last_or}
use Rattle.fs_model.specs.declared.path.Path.{Path}
use Rattle.fs_model.specs.declared.prefix.Prefix.{Prefix}
use Rattle.fs_model.specs.declared.label.Label.{Label}
use Rattle.fs_model.specs.declared.setup.Setup.{Setup}
use Rattle.fs_model.specs.declared.event.Event.{Event}
use Rattle.fs_model.specs.declared.event.WriteType.{WriteType}
use Rattle.fs_model.specs.declared.change.PlanKind.{PlanKind}
use Rattle.fs_model.specs.declared.reply.Reply.{Reply}
use Rattle.fs_model.specs.declared.reply.Refusal.{Refusal}
use Rattle.fs_model.specs.Words.{under, path_eq, update_at}
use Rattle.fs_model.specs.State.{State, Worker, Source, Writer, Mover, Hand, Hands, OpenBlock, PlanRow, MountRow, StoreRows, Stray}
use Rattle.fs_model.specs.Lookups.{hand_at, key_of, path_of, plan_at, stored_is_yes, store_of, mount_at, worker, is_running, is_empty, numbered}
use Rattle.fs_model.specs.BytesEvents.{block_wanted, writer_stands, unbroken_at, stored_by, writer_at}
use Rattle.fs_model.specs.BytesOutcomes.{sources, Candidate, commit_at, room_to_litter, BodyAndHands}
use Rattle.fs_model.specs.NodesEvents.{unstray_in, sweep_outcome, actions_left, store_rows}
use Rattle.fs_model.specs.Updates.{free_room, waiting_key, put_parked, set_hand, change_worker, without_room, no_store, release}

-- ---- counts

-- by how much the counts rose in the event: of each store, of each worker's tiers, of both areas, and the waits of the label's own reader
pub record Rise : Type 0 where
  pub stores : List ℕ
  pub tiers : List ℕ
  pub journal : ℕ
  pub waits : ℕ

-- the tiers of a worker, or a store
pub data Device : Type 0 where
  TiersOf : ℕ → Device
  StoreOf : ℕ → Device

-- two devices are one
abbrev pub device_eq : Device → Device → Bool
device_eq (Device.TiersOf w) (Device.TiersOf v) = nat_eq w v
device_eq (Device.StoreOf s) (Device.StoreOf t) = nat_eq s t
device_eq (Device.TiersOf w) (Device.StoreOf t) = false
device_eq (Device.StoreOf s) (Device.TiersOf v) = false

-- the device's count rose
abbrev pub rose : Rise → Device → Bool
rose r (Device.TiersOf w) = nat_lt 0 (get_or r.tiers (pred w) 0)
rose r (Device.StoreOf s) = nat_lt 0 (get_or r.stores (pred s) 0)

-- the device of a source
abbrev pub device_of : Source → Device
device_of (Source.AtWorker w t) = Device.TiersOf w
device_of (Source.AtStore s) = Device.StoreOf s

-- the count of the source's device rose
abbrev pub source_rose : Rise → Source → Bool
source_rose r src = rose r (device_of src)

-- the device that a fault names
abbrev pub device_named : Reply → Option Device
device_named (Reply.Refused (Refusal.TierFault w)) = Some (Device.TiersOf w)
device_named (Reply.Refused (Refusal.UnderFault s)) = Some (Device.StoreOf s)
device_named reply = None

-- ---- a clash with a stray

-- one of the two keys is a proper prefix of the other
abbrev pub crosses : Prefix → Stray → Bool
crosses k x = not (path_eq k x.key) && (under k x.key || under x.key k)

-- the store, where an object at this key would cross a stray
abbrev pub clash_at : State → Option (ℕ × Prefix) → Option ℕ
clash_at A None = None
clash_at A (Some k) = cond (list_any (crosses k.1) (store_rows A k.0).strays) (Some k.0) None

-- where the object of a file waits for its publishing
abbrev pub waiting_place : State → ℕ → Option (ℕ × Prefix)
waiting_place A id = option_map (λ (k : ℕ × Prefix). (k.0, waiting_key A.names.next_plan)) (option_and_then (key_of A.names) (path_of A.names id))

-- where the object of a finished writer or job would wait
abbrev pub finish_place : State → Hand → Option (ℕ × Prefix)
finish_place A (Hand.Reading s) = None
finish_place A (Hand.Writing w) = cond (stored_is_yes (stored_by w.kind)) (waiting_place A w.file) None
finish_place A (Hand.Moving m) = None
finish_place A (Hand.Storing j) = waiting_place A j.file

-- the first of some paths
abbrev pub first_path : List Path → Option Path
first_path [] = None
first_path (p ∷ ps) = Some p

-- the key to which the next action of the plan renames an object
abbrev pub pump_place : State → PlanRow → Option (ℕ × Prefix)
pump_place A r = elim r.kind as (λ k. Option (ℕ × Prefix)) [
  | PlanKind.Move ↦ option_and_then (key_of A.names) (first_path (actions_left A r))
  | PlanKind.Publish ↦ option_and_then (key_of A.names) (first_path (actions_left A r))
  | _ ↦ None
]

-- the store in which the event would finish or rename an object to a key that crosses a stray's
abbrev pub clash : State → Hands → Event → Option ℕ
clash A H (Event.Finish l) = option_and_then (λ h. clash_at A (finish_place A h)) (unbroken_at H l)
clash A H (Event.Pump n) = option_and_then (λ r. clash_at A (pump_place A r)) (plan_at A.names n)
clash A H e = None

-- ---- which devices an event calls, where nothing refuses it

-- the device is the tiers of this worker
abbrev pub is_tier : ℕ → Device → Bool
is_tier w d = device_eq (Device.TiersOf w) d

-- the device is this store
abbrev pub is_store : ℕ → Device → Bool
is_store s d = device_eq (Device.StoreOf s) d

-- the open block has a room
abbrev pub has_room : Option OpenBlock → Bool
has_room None = false
has_room (Some b) = is_some b.room

-- a file of this write type is stored when it is finished
abbrev pub publishes : WriteType → Bool
publishes kind = stored_is_yes (stored_by kind)

-- a new block, or the commit of the full one, is at the writer's worker; THROUGH is nowhere
abbrev pub is_through : WriteType → Bool
is_through WriteType.MustCache = false
is_through WriteType.CacheThrough = false
is_through WriteType.Through = true
is_through WriteType.AsyncThrough = false

-- Room calls the writer's worker for a new block or a commit
abbrev pub room_calls : State → Writer → Device → Bool
room_calls A w d = is_tier w.worker d && block_wanted w.bs w.block && writer_stands A w && not (is_through w.kind)

-- Put calls the worker of its open block, and the store of its object
abbrev pub put_calls : Writer → Device → Bool
put_calls w d = not (block_wanted w.bs w.block) && ((is_tier w.worker d && has_room w.block) || (is_store w.store d && publishes w.kind))

-- Finish calls the worker of a commit or a move, and the store of an object
abbrev pub finish_calls : State → Hand → Device → Bool
finish_calls A (Hand.Reading s) d = false
finish_calls A (Hand.Writing w) d = (is_tier w.worker d && has_room w.block && writer_stands A w) || (is_store w.store d && publishes w.kind)
finish_calls A (Hand.Moving m) d = is_tier m.held.worker d
finish_calls A (Hand.Storing j) d = is_store j.store d

-- the test of the writer, if there is one
abbrev pub by_writer : (Writer → Bool) → Option Writer → Bool
by_writer test None = false
by_writer test (Some w) = test w

-- the test of what the label has, if there is one
abbrev pub by_hand : (Hand → Bool) → Option Hand → Bool
by_hand test None = false
by_hand test (Some h) = test h

-- the stores up to the first that has a parked object are asked for their keys
abbrev pub sweep_calls_store : State → Device → Bool
sweep_calls_store A (Device.TiersOf w) = false
sweep_calls_store A (Device.StoreOf s) = nat_lt 0 s && nat_le s (length A.stores) && list_all (λ (r : ℕ × StoreRows). nat_le s r.0 || is_empty r.1.parked) (numbered A.stores)

-- Sweep calls the stores, or the worker that has litter
abbrev pub sweep_calls : State → ℕ → Device → Bool
sweep_calls A w d = cond (nat_eq w 0) (sweep_calls_store A d) (is_tier w d && not (is_empty (worker A w).litter))

-- the device is the mount's store
abbrev pub mount_store : Option MountRow → Device → Bool
mount_store None d = false
mount_store (Some m) d = is_store m.store d

-- the device is the store of the first action
abbrev pub action_store : State → List Path → Device → Bool
action_store A [] d = false
action_store A (p ∷ ps) d = is_store (store_of A.names p) d

-- Pump calls the store of the plan's next action, or of its mount
abbrev pub pump_calls : State → Device → Option PlanRow → Bool
pump_calls A d None = false
pump_calls A d (Some r) = elim r.kind as (λ k. Bool) [
  | PlanKind.Load ↦ mount_store (mount_at A.names r.path) d
  | _ ↦ action_store A (actions_left A r) d
]

-- the devices that an event calls, but for Next, Poll and Copy, whose faults are their readers'
abbrev pub calls : State → Hands → Event → Device → Bool
calls A H (Event.Create l p kind w) d = publishes kind && is_store (store_of A.names p) d
calls A H (Event.Room l) d = by_writer (λ w. room_calls A w d) (writer_at H l)
calls A H (Event.Put l fill) d = by_writer (λ w. put_calls w d) (writer_at H l)
calls A H (Event.Finish l) d = by_hand (λ h. finish_calls A h d) (unbroken_at H l)
calls A H (Event.Job l p) d = is_store (store_of A.names p) d
calls A H (Event.Shift l w p i t) d = is_tier w d
calls A H (Event.Start w) d = is_tier w d && not (is_running A w)
calls A H (Event.Sweep w) d = sweep_calls A w d
calls A H (Event.Pump n) d = pump_calls A d (plan_at A.names n)
calls A H e d = false

-- ---- what a fault leaves

-- what became of a block whose commit was begun
pub data BlockFate : Type 0 where
  IsCopy : BlockFate
  IsLitter : BlockFate
  IsGone : BlockFate

-- what a fault may leave so or so; only at a worker that stands is a commit begun
pub record Remains : Type 0 where
  pub begun : Bool
  pub fate : BlockFate
  -- whether a block whose commit wasn't begun stays with its label and its room
  pub keeps_room : Bool
  -- whether a finished object waits in the store
  pub parks : Bool
  -- whether a call on a store was done although it failed
  pub acted : Bool
  -- whether a job's own object failed, and not its reader
  pub breaks : Bool

-- one of three states, by what became of the block
abbrev pub by_fate : BlockFate → State → State → State → State
by_fate BlockFate.IsCopy copy litter gone = copy
by_fate BlockFate.IsLitter copy litter gone = litter
by_fate BlockFate.IsGone copy litter gone = gone

-- the commit of the writer's open block was begun
abbrev pub is_begun : Remains → State → Writer → Bool
is_begun x A w = x.begun && writer_stands A w

-- the open block of a writer is given up
abbrev pub block_lost : Setup → Remains → State → Writer → ℕ → OpenBlock → State
block_lost S x A w n b =
    let freed = free_room (record { worker = w.worker; start = w.start; number = n }) A in
    cond (is_begun x A w)
    (by_fate x.fate
    (commit_at A w.worker n w.file ((length w.taken - b.len) / w.bs) b.len)
    (change_worker w.worker (room_to_litter n) A)
    freed)
    (cond x.keeps_room A freed)

-- the label keeps its open block
abbrev pub keeps_block : Remains → State → Writer → Bool
keeps_block x A w = not (is_begun x A w) && x.keeps_room

-- the open block, if there is one, is given up
abbrev pub block_lost_by : Setup → Remains → State → Writer → Option OpenBlock → State
block_lost_by S x A w None = A
block_lost_by S x A w (Some b) = record A { workers = elim b.room [ None ↦ A.workers | Some n ↦ (block_lost S x A w n b).workers ] }

-- the writer is broken
abbrev pub broken_writer : Remains → State → Hands → Label → Writer → Hands
broken_writer x A H l w = set_hand l (Hand.Writing (record w { broken = true; block = cond (keeps_block x A w) w.block None })) H

-- what a fault of Room leaves
abbrev pub writer_after_fault : Setup → Remains → State → Hands → Label → Option Writer → BodyAndHands
writer_after_fault S x A H l None = (A, H)
writer_after_fault S x A H l (Some w) = (block_lost_by S x A w w.block, broken_writer x A H l w)

-- a Put begins no commit, and leaves the room to its label
abbrev pub put_after_fault : Hands → Label → Option Writer → Hands
put_after_fault H l None = H
put_after_fault H l (Some w) = set_hand l (Hand.Writing (record w { broken = true })) H

-- an object waits in the store
abbrev pub park : ℕ → List ℕ → StoreRows → StoreRows
park n bs R = record R { parked = put_parked (record { plan = n; bytes = bs }) R.parked }

-- an object waits in the store of this key
abbrev pub park_in : ℕ → List ℕ → Option (ℕ × Prefix) → List StoreRows → List StoreRows
park_in n bs None rows = rows
park_in n bs (Some k) rows = update_at (pred k.0) no_store (park n bs) rows

-- at a clash the call is a miss, and changes nothing
abbrev pub clear_place : State → Option (ℕ × Prefix) → Option (ℕ × Prefix)
clear_place A o = cond (is_some (clash_at A o)) None o

-- a finished object waits, where it is chosen so
abbrev pub parked_if : Bool → State → Option (ℕ × Prefix) → List ℕ → State → State
parked_if b A k bs B = record B { stores = cond b (park_in A.names.next_plan bs k B.stores) B.stores }

-- the room of a mover that failed is freed, and its object is litter or gone
abbrev pub mover_room_lost : BlockFate → ℕ → Worker → Worker
mover_room_lost BlockFate.IsCopy n W = without_room n W
mover_room_lost BlockFate.IsLitter n W = room_to_litter n W
mover_room_lost BlockFate.IsGone n W = without_room n W

-- a mover's new block is litter or gone, its room is freed and its hold released
abbrev pub mover_after_fault : Remains → ℕ → Label → Mover → State → State
mover_after_fault x who l m A = release who l (change_worker m.held.worker (mover_room_lost x.fate m.room) A)

-- what a fault of Finish leaves
abbrev pub finish_after_fault : Setup → Remains → State → ℕ → Hands → Label → Option Hand → BodyAndHands
finish_after_fault S x A who H l None = (A, H)
finish_after_fault S x A who H l (Some (Hand.Reading s)) = (A, H)
finish_after_fault S x A who H l (Some (Hand.Writing w)) = (parked_if x.parks A (clear_place A (finish_place A (Hand.Writing w))) w.taken (block_lost_by S x A w w.block), broken_writer x A H l w)
finish_after_fault S x A who H l (Some (Hand.Moving m)) = (mover_after_fault x who l m A, set_hand l (Hand.Moving (record m { broken = true })) H)
finish_after_fault S x A who H l (Some (Hand.Storing j)) = (parked_if x.parks A (clear_place A (waiting_place A j.file)) j.bytes A, set_hand l (Hand.Storing (record j { broken = true })) H)

-- the label's reader is dropped, or the label is broken
abbrev pub reader_dropped : Remains → Label → Option Hand → Hands → Hands
reader_dropped x l None H = H
reader_dropped x l (Some (Hand.Reading s)) H = set_hand l (Hand.Reading (record s { source = None })) H
reader_dropped x l (Some (Hand.Writing w)) H = H
reader_dropped x l (Some (Hand.Moving m)) H = set_hand l (Hand.Moving (record m { broken = true })) H
reader_dropped x l (Some (Hand.Storing j)) H = set_hand l (Hand.Storing (record j { source = cond x.breaks j.source None; broken = x.breaks })) H

-- a rename that failed may have been done: then a stray at its key is gone
abbrev pub pump_after_fault : Remains → State → Option PlanRow → State
pump_after_fault x A None = A
pump_after_fault x A (Some r) = record A { stores = cond (x.acted && is_none (clash_at A (pump_place A r))) (unstray_in (pump_place A r) A.stores) A.stores }

-- a removal that failed may have been done
abbrev pub sweep_after_fault : Remains → State → ℕ → State
sweep_after_fault x A w = record A { stores = cond (x.acted && nat_eq w 0) (sweep_outcome A 0).1.stores A.stores }

-- what a fault in the event leaves
abbrev pub after_fault : Setup → Remains → State → ℕ → Hands → Event → BodyAndHands
after_fault S x A who H (Event.Room l) = writer_after_fault S x A H l (writer_at H l)
after_fault S x A who H (Event.Put l fill) = (A, put_after_fault H l (writer_at H l))
after_fault S x A who H (Event.Finish l) = finish_after_fault S x A who H l (unbroken_at H l)
after_fault S x A who H (Event.Poll l max) = (A, reader_dropped x l (hand_at H l) H)
after_fault S x A who H (Event.Copy l) = (A, reader_dropped x l (hand_at H l) H)
after_fault S x A who H (Event.Pump n) = (pump_after_fault x A (plan_at A.names n), H)
after_fault S x A who H (Event.Sweep w) = (sweep_after_fault x A w, H)
after_fault S x A who H e = (A, H)

-- ---- which fault an event may answer

-- a stream or a job that isn't at its end and has no source
abbrev pub seeks_source : Hand → Bool
seeks_source (Hand.Reading s) = nat_lt s.at (length s.bytes) && is_none s.source
seeks_source (Hand.Writing w) = false
seeks_source (Hand.Moving m) = false
seeks_source (Hand.Storing j) = nat_lt j.at (length j.bytes) && is_none j.source

-- the sources that Next would try
abbrev pub sources_for : Setup → State → Hand → List Candidate
sources_for S A (Hand.Reading s) = sources A s.worker s.file (s.at / s.bs)
sources_for S A (Hand.Writing w) = []
sources_for S A (Hand.Moving m) = []
sources_for S A (Hand.Storing j) = sources A 0 j.file (j.at / j.bs)

-- the device is that of the source
abbrev pub is_source : Device → Option Source → Bool
is_source d None = false
is_source d (Some src) = device_eq d (device_of src)

-- Next fails where every source did, and names the last one
abbrev pub next_may_fail : Rise → Device → List Candidate → Bool
next_may_fail r d cs = list_all (λ (c : Candidate). source_rose r c.0) cs && is_source d (option_map (λ (c : Candidate). c.0) (last_or None cs))

-- the fault of a reader is its source's; a mover has both ends at one worker, and a job's own object may fail
abbrev pub copy_may_fail : Remains → Device → Hand → Bool
copy_may_fail x d (Hand.Reading s) = is_source d s.source
copy_may_fail x d (Hand.Writing w) = false
copy_may_fail x d (Hand.Moving m) = nat_lt m.copied m.len && is_tier m.held.worker d
copy_may_fail x d (Hand.Storing j) = is_some j.source && cond x.breaks (is_store j.store d) (is_source d j.source)

-- the device is the store of a clash
abbrev pub is_clash_at : Option ℕ → Device → Bool
is_clash_at None d = false
is_clash_at (Some s) d = is_store s d

-- the device failed a call of the event: its count rose, or the call was a clash
abbrev pub may_fail_by : Setup → Remains → State → Hands → Event → Rise → Device → Bool
may_fail_by S x A H (Event.Next l) r d = by_hand (λ h. seeks_source h && next_may_fail r d (sources_for S A h)) (unbroken_at H l)
may_fail_by S x A H (Event.Poll l max) r d = rose r d && by_hand (copy_may_fail x d) (unbroken_at H l)
may_fail_by S x A H (Event.Copy l) r d = rose r d && by_hand (copy_may_fail x d) (unbroken_at H l)
may_fail_by S x A H e r d = (rose r d && calls A H e d) || is_clash_at (clash A H e) d

-- the test of the device that a reply names
abbrev pub fails_by : (Device → Bool) → Option Device → Bool
fails_by test None = false
fails_by test (Some d) = test d

-- the reply is the fault of a device that failed a call of the event
abbrev pub may_fail : Setup → Remains → State → Hands → Event → Rise → Reply → Bool
may_fail S x A H e r reply = fails_by (may_fail_by S x A H e r) (device_named reply)
