-- The events of workers, the journal and plans: refusals, answers and the state after them.
use Rattle.std.specs.Prelude.{ℕ, pred, ◌+◌, ◌-◌, ◌*◌, ◌/◌, ◌^◌, Bool, true, false, cond, not, ◌&&◌, ◌||◌, List, [], ◌∷◌, ◌++◌, map, length, drop, filter, get_or, nat_eq, nat_lt, nat_le, Option, Some, None, is_none, option_map, option_and_then, unwrap_or, sum_by, filter_map, find, fold}
use Rattle.std.specs.List.{list_any, last_or}
use Rattle.fs_model.specs.declared.path.Path.{Path}
use Rattle.fs_model.specs.declared.prefix.Prefix.{Prefix}
use Rattle.fs_model.specs.declared.setup.Setup.{Setup}
use Rattle.fs_model.specs.declared.change.Change.{Change}
use Rattle.fs_model.specs.declared.change.PlanKind.{PlanKind}
use Rattle.fs_model.specs.declared.reply.Reply.{Reply}
use Rattle.fs_model.specs.declared.reply.Refusal.TheVariants.{NoWorker}
use Rattle.fs_model.specs.declared.reply.Which.{Which}
use Rattle.fs_model.specs.Words.{first, under, path_eq, path_lt, path_len, block_count, ◌when◌, put_in_order, name_eq, update_at}
use Rattle.fs_model.specs.State.{State, Names, NodeRow, MountRow, PlanRow, Copied, Worker, Registration, StoreRows, Stray, Progress, Doubt, Master, Content}
use Rattle.fs_model.specs.Choices.{Choices}
use Rattle.fs_model.specs.Lookups.{worker, registration, is_running, numbered, holders, file_of, plan_at, key_of, stored_under, mount_at}
use Rattle.fs_model.specs.NamesOutcomes.{strays_under}
use Rattle.fs_model.specs.Changes.{apply, entry_len, missing_parts}
use Rattle.fs_model.specs.Tests.{refuse, stopped, not_configured, past, past_ids, past_nodes, past_area, ◌only_if◌}
use Rattle.fs_model.specs.Updates.{reserved, waiting_key, unpark_at, unpark_if, keep_contents, change_worker, change_registration, change_store, journal, journal_if, is_kept, is_pinned, spend, no_store}

-- ---- workers

-- the worker doesn't run
abbrev pub not_running : State → ℕ → Option Reply
not_running A w = refuse (NoWorker w) (not (is_running A w))

-- the tests of Start
abbrev pub start_refusal : Setup → State → ℕ → Option Reply
start_refusal S A w = first (not_configured S w ∷ (past_ids (worker A w).start only_if not (is_running A w)) ∷ [])

-- the worker runs anew, with nothing in its tiers
abbrev pub started : Worker → Worker
started W = record { running = true; start = W.start + 1; next = 1; copies = []; rooms = []; litter = [] }

-- Start: nothing changes where the worker runs
abbrev pub start_outcome : State → ℕ → Reply × State
start_outcome A w =
    let runs = is_running A w in
    (Reply.Done, change_registration w (λ s. record s { known = s.known && runs }) (change_worker w (λ W. cond runs W (started W)) A))

-- the tests of Kill
abbrev pub kill_refusal : Setup → State → ℕ → Option Reply
kill_refusal S A w = first (not_configured S w ∷ not_running A w ∷ [])

-- Kill
abbrev pub kill_outcome : State → ℕ → Reply × State
kill_outcome A w = (Reply.Done, change_worker w (λ W. record W { running = false; copies = []; rooms = [] }) A)

-- the change of a Register: only where the worker is new
abbrev pub seen_change : State → ℕ → Option Change
seen_change A w = Change.Seen w when not (list_any (nat_eq w) A.names.seen)

-- the tests of Register
abbrev pub register_refusal : Setup → State → ℕ → Option Reply
register_refusal S A w = first (
    stopped A
    ∷ not_configured S w
    ∷ past_area S A (seen_change A w)
    ∷ not_running A w
    ∷ [])

-- what a beat tells of a copy
abbrev pub flagged : Names → Copied → Copied
flagged N c = record c { keep = is_kept N c.file; pin = is_pinned N c.file }

-- a copy that is free or whose file is gone, and that nobody holds
abbrev pub is_dropped : State → ℕ → Copied → Bool
is_dropped A w c = (c.free || is_none (file_of A.names c.file)) && nat_eq (holders A w c.number) 0

-- a beat sets the flags and drops copies
abbrev pub told : State → ℕ → Worker → Worker
told A w W =
    let flagged_copies = map (flagged A.names) W.copies in
    record W {
      copies = filter (λ c. not (is_dropped A w c)) flagged_copies;
      litter = W.litter ++ map (λ c. c.number) (filter (is_dropped A w) flagged_copies);
    }

-- the same of a state
abbrev pub tell : ℕ → State → State
tell w A = change_worker w (told A w) A

-- Register
abbrev pub register_outcome : State → ℕ → Reply × State
register_outcome A w = (Reply.Done, tell w (change_registration w (λ s. record { known = true; awaited = false; silence = 0 }) (journal_if (seen_change A w) A)))

-- the tests of Beat
abbrev pub beat_refusal : Setup → State → ℕ → Option Reply
beat_refusal S A w = first (stopped A ∷ not_configured S w ∷ not_running A w ∷ [])

-- Beat
abbrev pub beat_outcome : State → ℕ → Reply × State
beat_outcome A w =
    let known = (registration A w).known in (
      cond known Reply.Done Reply.Register,
      change_worker w (λ W. cond known (told A w W) W) (change_registration w (λ s. record s { silence = cond known 0 s.silence }) A),
    )

-- the worker is known or awaited
abbrev pub counts_silence : Registration → Bool
counts_silence s = s.known || s.awaited

-- the next tick takes the worker out
abbrev pub is_due : Setup → Registration → Bool
is_due S s = counts_silence s && nat_le S.patience (s.silence + 1)

-- the workers that the next tick takes out, rising
abbrev pub due : Setup → State → List ℕ
due S A = filter_map (λ (r : ℕ × Registration). cond (is_due S r.1) (Some r.0) None) (numbered A.registrations)

-- the change of a Tick: only where workers are lost
abbrev pub lost_change : List ℕ → Option Change
lost_change [] = None
lost_change (w ∷ ws) = Some (Change.Lost (w ∷ ws))

-- the tests of Tick
abbrev pub tick_refusal : Setup → State → Option Reply
tick_refusal S A = first (stopped A ∷ past_area S A (lost_change (due S A)) ∷ [])

-- what the master knows of a worker after a tick
abbrev pub ticked : Setup → Registration → Registration
ticked S s = cond (counts_silence s) (record { known = s.known && not (is_due S s); awaited = s.awaited && not (is_due S s); silence = s.silence + 1 }) s

-- the same of all workers
abbrev pub tick_registrations : Setup → State → State
tick_registrations S A = record A { registrations = map (ticked S) A.registrations }

-- Tick
abbrev pub tick_outcome : Setup → State → Reply × State
tick_outcome S A = (Reply.Done, journal_if (lost_change (due S A)) (tick_registrations S A))

-- the tests of Sweep: of the stores it wants the master up
abbrev pub sweep_refusal : Setup → State → ℕ → Option Reply
sweep_refusal S A w = cond (nat_eq w 0) (stopped A) (kill_refusal S A w)

-- the oldest litter of the worker goes
abbrev pub sweep_worker : State → ℕ → List ℕ → Reply × State
sweep_worker A w [] = (Reply.Ended, A)
sweep_worker A w (n ∷ ns) = (Reply.Stepped, change_worker w (λ W. record W { litter = ns }) A)

-- the list without its first element
abbrev pub tail : {X : Type 0} → List X → List X
tail [] = []
tail (x ∷ xs) = xs

-- parked rows stand by key
abbrev pub sweep_stores : State → Option (ℕ × StoreRows) → Reply × State
sweep_stores A None = (Reply.Ended, A)
sweep_stores A (Some r) = (Reply.Stepped, change_store r.0 (λ R. record R { parked = tail R.parked }) A)

-- Sweep
abbrev pub sweep_outcome : State → ℕ → Reply × State
sweep_outcome A w = cond (nat_eq w 0)
    (sweep_stores A (find (λ (r : ℕ × StoreRows). nat_lt 0 (length r.1.parked)) (numbered A.stores)))
    (sweep_worker A w (worker A w).litter)

-- ---- checkpoint, fuse, restart

-- how long the entries of a checkpoint are, each with its gate
abbrev pub node_entry_len : Names → NodeRow → ℕ
node_entry_len N r = elim (mount_at N r.0) [
  | None ↦ 1 + 27 + path_len r.0
  | Some m ↦ 1 + entry_len (Change.Mount r.0 m.store m.key 0)
]

-- how long the entries of a pending plan are, each with its gate
abbrev pub plan_entry_len : PlanRow → ℕ
plan_entry_len r = 1 + 18 + path_len r.path + path_len r.to + sum_by (λ p. 1 + 15 + path_len p) r.leaves

-- the place of the closed gate in the text of a checkpoint
abbrev pub checkpoint_gate : Names → ℕ
checkpoint_gate N = 9 + 22 + sum_by (node_entry_len N) N.nodes + sum_by plan_entry_len N.plans + 10 * length N.seen

-- the calls that it makes: five, and one for each started 65,536 bytes after place 0
abbrev pub checkpoint_calls : Names → ℕ
checkpoint_calls N = 5 + (checkpoint_gate N + 65535) / 65536

-- the tests of Checkpoint
abbrev pub checkpoint_refusal : Setup → State → Option Reply
checkpoint_refusal S A = first (
    stopped A
    ∷ past Which.Area (nat_lt S.area (checkpoint_gate A.names + 1) || nat_le (2 ^ 64 - 1) A.master.generation)
    ∷ [])

-- the next generation, whose gate is that of the names' checkpoint
abbrev pub checkpointed : State → State
checkpointed A = record A { master = record A.master { gate = checkpoint_gate A.names; generation = A.master.generation + 1 } }

-- Checkpoint
abbrev pub checkpoint_outcome : State → Reply × State
checkpoint_outcome A = (Reply.Done, record (checkpointed A) { master = record (checkpointed A).master { fuse = spend (checkpoint_calls A.names) A.master.fuse } })

-- Fuse
abbrev pub fuse_outcome : State → ℕ → Reply × State
fuse_outcome A k = (Reply.Done, record A { master = record A.master { fuse = Some k } })

-- the object of the path replaces a stray of its key
abbrev pub unstray : Prefix → StoreRows → StoreRows
unstray k R = record R { strays = filter (λ x. not (path_eq x.key k)) R.strays }

-- the same in the store of the key
abbrev pub unstray_in : Option (ℕ × Prefix) → List StoreRows → List StoreRows
unstray_in None rows = rows
unstray_in (Some k) rows = update_at (pred k.0) no_store (unstray k.1) rows

-- what was in doubt is there after all
abbrev pub doubt_names : Option Doubt → Names → Names
doubt_names None N = N
doubt_names (Some (Doubt.InChange c bs)) N = apply c N
doubt_names (Some Doubt.InCheckpoint) N = N

-- the bytes of the stray at this place
abbrev pub stray_bytes : List StoreRows → Option (ℕ × Prefix) → List ℕ
stray_bytes rows None = []
stray_bytes rows (Some k) = unwrap_or (option_map (λ x. x.bytes) (find (λ x. path_eq x.key k.1) (get_or rows (pred k.0) no_store).strays)) []

-- the bytes of the file that a change finishes or loads, the first ones handed with the doubt
abbrev pub changed_contents : State → Change → List ℕ → List Content
changed_contents A (Change.Done id len stored plan) bs = A.contents ++ record { file = id; bytes = bs } ∷ []
changed_contents A (Change.Loaded id p len) bs = A.contents ++ record { file = id; bytes = stray_bytes A.stores (key_of A.names p) } ∷ []
changed_contents A c bs = A.contents

-- the loose objects: one that waits for the new plan is a row no more, nor is a loaded one; those of unmounted files become strays
abbrev pub changed_stores : State → Change → List StoreRows
changed_stores A (Change.Done id len stored plan) = (unpark_if stored plan A id A).stores
changed_stores A (Change.Persisted id plan) = (unpark_at plan A id A).stores
changed_stores A (Change.Unmount p) = (strays_under p A).stores
changed_stores A (Change.Loaded id p len) = unstray_in (key_of A.names p) A.stores
changed_stores A c = A.stores

-- the bytes of files once what was in doubt is there
abbrev pub doubt_contents : State → Option Doubt → List Content
doubt_contents A None = A.contents
doubt_contents A (Some (Doubt.InChange c bs)) = changed_contents A c bs
doubt_contents A (Some Doubt.InCheckpoint) = A.contents

-- the loose objects once what was in doubt is there
abbrev pub doubt_stores : State → Option Doubt → List StoreRows
doubt_stores A None = A.stores
doubt_stores A (Some (Doubt.InChange c bs)) = changed_stores A c
doubt_stores A (Some Doubt.InCheckpoint) = A.stores

-- the gate and the generation once what was in doubt is there
abbrev pub doubt_master : Names → Option Doubt → Master → Master
doubt_master N None M = M
doubt_master N (Some (Doubt.InChange c bs)) M = record M { gate = M.gate + 1 + entry_len c }
doubt_master N (Some Doubt.InCheckpoint) M = record M { gate = checkpoint_gate N; generation = M.generation + 1 }

-- the state with what was in doubt, where it is found
abbrev pub with_doubt : Bool → State → State
with_doubt keeps A =
    let o = cond keeps A.master.doubt None in
    keep_contents (record A { names = doubt_names o A.names; contents = doubt_contents A o; stores = doubt_stores A o; master = doubt_master A.names o A.master })

-- the master's memory is forgotten; what the journal keeps stays
abbrev pub recovered : State → State
recovered A = record A {
  progress = [];
  registrations = map (λ (r : ℕ × Registration). record { known = false; awaited = list_any (nat_eq r.0) A.names.seen; silence = 0 }) (numbered A.registrations);
  master = record A.master { up = true; doubt = None; fuse = None };
}

-- Restart
abbrev pub restart_outcome : Choices → State → Reply × State
restart_outcome k A = (Reply.Done, recovered (with_doubt k.keeps A))

-- ---- plans

-- the object of a file in a move, with the path before it; of a removal, the path that it had; of a publishing, the file
abbrev pub actions : Names → PlanRow → List Path
actions N r = elim r.kind [
  | PlanKind.Move ↦ stored_under N r.to
  | PlanKind.Remove ↦ r.leaves
  | PlanKind.Publish ↦ r.path ∷ []
  | PlanKind.Load ↦ []
]

-- how far the plan has come
abbrev pub progress_of : State → ℕ → Option Progress
progress_of A n = find (λ g. nat_eq g.plan n) A.progress

-- how many of its actions were done
abbrev pub steps_done : State → ℕ → ℕ
steps_done A n = elim (progress_of A n) [ None ↦ 0 | Some g ↦ g.steps ]

-- the actions that are left, in order
abbrev pub actions_left : State → PlanRow → List Path
actions_left A r = drop (steps_done A r.number) (actions A.names r)

-- the plan has come so far
abbrev pub set_progress : Progress → State → State
set_progress g A = record A { progress = g ∷ filter (λ h. not (nat_eq h.plan g.plan)) A.progress }

-- one action more was done
abbrev pub step_plan : ℕ → State → State
step_plan n A = set_progress (record { plan = n; steps = steps_done A n + 1; reached = None }) A

-- the greatest key of a file under a load's path
abbrev pub first_reached : Names → PlanRow → Option Prefix
first_reached N r = option_map (λ (k : ℕ × Prefix). k.1) (option_and_then (key_of N) (last_or None (stored_under N r.path)))

-- the key that a Load has reached
abbrev pub reached : State → PlanRow → Option Prefix
reached A r = elim (progress_of A r.number) [ None ↦ first_reached A.names r | Some g ↦ g.reached ]

-- ---- what a load meets next

-- a key with its bytes
abbrev pub Object : Type 0
Object = Prefix × List ℕ

-- the loose objects of a store
abbrev pub store_rows : State → ℕ → StoreRows
store_rows A s = get_or A.stores (pred s) (record { parked = []; strays = [] })

-- the key is above the one that was reached
abbrev pub is_after : Option Prefix → Prefix → Bool
is_after None k = true
is_after (Some r) k = path_lt r k

-- strays and parked objects by key
abbrev pub loose_objects : StoreRows → List Stray
loose_objects R = fold (λ xs p. put_in_order (λ x. x.key) (record { key = waiting_key p.plan; bytes = p.bytes }) xs) R.strays R.parked

-- those at or below the prefix and above `reached`, the least first
abbrev pub loadable : State → MountRow → Option Prefix → List Stray
loadable A m from = filter (λ x. under x.key m.key && is_after from x.key) (loose_objects (store_rows A m.store))

-- the key's first name is the reserved one
abbrev pub is_reserved : Prefix → Bool
is_reserved [] = false
is_reserved (x ∷ xs) = name_eq x reserved

-- the path of a key below a mount
abbrev pub path_of_key : MountRow → Prefix → Path
path_of_key m k = m.path ++ drop (length m.key) k

-- a reserved key, the prefix itself, and a key that would make too long a path or too many blocks, are passed over
abbrev pub is_passed : Setup → MountRow → Stray → Bool
is_passed S m x = is_reserved x.key || path_eq x.key m.key || nat_lt 4096 (path_len (path_of_key m x.key)) || nat_lt 65536 (block_count (length x.bytes) S.block)

-- what a Load meets next: nothing, a key to pass over, or one to take
pub data Load : Type 0 where
  Nothing : Load
  PassOver : Stray → Load
  Take : MountRow → Stray → Load

-- what the first of these objects is to a Load
abbrev pub load_first : Setup → MountRow → List Stray → Load
load_first S m [] = Load.Nothing
load_first S m (x ∷ xs) = cond (is_passed S m x) (Load.PassOver x) (Load.Take m x)

-- what a Load meets next
abbrev pub load_next : Setup → State → PlanRow → Load
load_next S A r = elim (mount_at A.names r.path) [ None ↦ Load.Nothing | Some m ↦ load_first S m (loadable A m (reached A r)) ]

-- the change of a key that is taken
abbrev pub loaded_change : State → MountRow → Stray → Change
loaded_change A m x = Change.Loaded A.names.next_id (path_of_key m x.key) (length x.bytes)

-- ---- Pump

-- the tests of a Load's next key
abbrev pub load_refusal : Setup → State → PlanRow → Load → Option Reply
load_refusal S A r Load.Nothing = past_area S A (Some (Change.PlanEnd r.number))
load_refusal S A r (Load.PassOver x) = None
load_refusal S A r (Load.Take m x) = first (
    past_nodes A (length (missing_parts A.names (path_of_key m x.key)) + 1)
    ∷ past_ids A.names.next_id
    ∷ past_area S A (Some (loaded_change A m x))
    ∷ [])

-- the tests of Pump for a plan
abbrev pub pump_refusal_of : Setup → State → PlanRow → Option Reply
pump_refusal_of S A r = elim r.kind as (λ k. Option Reply) [
  | PlanKind.Load ↦ load_refusal S A r (load_next S A r)
  | _ ↦ past_area S A (Change.PlanEnd r.number when nat_eq (length (actions_left A r)) 0)
]

-- the tests of Pump
abbrev pub pump_refusal : Setup → State → ℕ → Option Reply
pump_refusal S A n = first (stopped A ∷ elim (plan_at A.names n) [ None ↦ None | Some r ↦ pump_refusal_of S A r ] ∷ [])

-- the plan ends
abbrev pub end_of_plan : State → PlanRow → Reply × State
end_of_plan A r = (Reply.Ended, record (journal (Change.PlanEnd r.number) A) { progress = filter (λ g. not (nat_eq g.plan r.number)) A.progress })

-- a move or a publishing onto a stray's key takes the stray's place
abbrev pub act_in : PlanKind → Option (ℕ × Prefix) → List StoreRows → List StoreRows
act_in PlanKind.Move k rows = unstray_in k rows
act_in PlanKind.Remove k rows = rows
act_in PlanKind.Publish k rows = unstray_in k rows
act_in PlanKind.Load k rows = rows

-- an action is done
abbrev pub act : PlanRow → State → Path → State
act r A p = record A { stores = act_in r.kind (key_of A.names p) A.stores }

-- the next action is done, or the plan ends
abbrev pub pump_action : State → PlanRow → List Path → Reply × State
pump_action A r [] = end_of_plan A r
pump_action A r (p ∷ ps) = (Reply.Stepped, step_plan r.number (act r A p))

-- a Load has reached this key
abbrev pub reach : ℕ → Prefix → State → State
reach n k A = set_progress (record { plan = n; steps = 0; reached = Some k }) A

-- a stray becomes a file
abbrev pub take_stray : State → MountRow → Stray → State
take_stray A m x =
    let B = journal (loaded_change A m x) (change_store m.store (unstray x.key) A) in
    record B { contents = B.contents ++ record { file = A.names.next_id; bytes = x.bytes } ∷ [] }

-- a Load takes its next key, passes it over, or ends
abbrev pub pump_load : State → PlanRow → Load → Reply × State
pump_load A r Load.Nothing = end_of_plan A r
pump_load A r (Load.PassOver x) = (Reply.Stepped, reach r.number x.key A)
pump_load A r (Load.Take m x) = (Reply.Stepped, reach r.number x.key (take_stray A m x))

-- Pump for a plan
abbrev pub pump_of : Setup → State → PlanRow → Reply × State
pump_of S A r = elim r.kind as (λ k. Reply × State) [
  | PlanKind.Load ↦ pump_load A r (load_next S A r)
  | _ ↦ pump_action A r (actions_left A r)
]

-- Pump: a plan that isn't pending has ended
abbrev pub pump_outcome : Setup → State → ℕ → Reply × State
pump_outcome S A n = elim (plan_at A.names n) [ None ↦ (Reply.Ended, A) | Some r ↦ pump_of S A r ]
