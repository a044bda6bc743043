-- Every event: the answer that comes before anything is done, and what an accepted one does.
use Rattle.std.specs.Prelude.{ℕ, pred, get_or, set, length, List, [], ◌∷◌, Option, Some, None}
use Rattle.fs_model.specs.declared.setup.Setup.{Setup}
use Rattle.fs_model.specs.declared.event.Event.{Event}
use Rattle.fs_model.specs.declared.reply.Reply.{Reply}
use Rattle.fs_model.specs.State.{State, Hands, HoldRow, Whole}
use Rattle.fs_model.specs.NamesEvents.{mkdir_refusal, create_refusal, rename_refusal, remove_refusal, pin_refusal, persist_refusal, free_refusal, mount_refusal, unmount_refusal, list_refusal, stat_refusal, where_refusal}
use Rattle.fs_model.specs.NamesOutcomes.{mkdir_outcome, create_outcome, rename_outcome, remove_outcome, pin_outcome, persist_outcome, free_outcome, mount_outcome, unmount_outcome, list_outcome, stat_outcome, where_outcome, plans_outcome, wanted_outcome}
use Rattle.fs_model.specs.BytesEvents.{room_refusal, put_refusal, finish_refusal, open_refusal, next_refusal, poll_refusal, copy_refusal, close_refusal, job_refusal, shift_refusal, unbroken_at, stream_at}
use Rattle.fs_model.specs.BytesOutcomes.{room_outcome, put_outcome, finish_outcome, open_outcome, next_outcome, poll_outcome, copy_outcome, close_outcome, job_outcome, shift_outcome, most, most_copied, Outcome, OwnOutcome}
use Rattle.fs_model.specs.NodesEvents.{start_refusal, start_outcome, kill_refusal, kill_outcome, register_refusal, register_outcome, beat_refusal, beat_outcome, tick_refusal, tick_outcome, sweep_refusal, sweep_outcome, checkpoint_refusal, checkpoint_outcome, fuse_outcome, restart_outcome, pump_refusal, pump_outcome}
use Rattle.fs_model.specs.Tests.{stopped}
use Rattle.fs_model.specs.Choices.{Choices, fault_free}
use Rattle.fs_model.specs.Updates.{end_hand, release}

-- the first test that holds, with its answer
abbrev pub refusal : Setup → State → Hands → Event → Option Reply
refusal S A H (Event.Mkdir p) = mkdir_refusal S A p
refusal S A H (Event.Create l p kind w) = create_refusal S A H l p w
refusal S A H (Event.Rename p q) = rename_refusal S A p q
refusal S A H (Event.Remove p deep) = remove_refusal S A p deep
refusal S A H (Event.Pin p on) = pin_refusal S A p on
refusal S A H (Event.Persist p) = persist_refusal S A p
refusal S A H (Event.Free p) = free_refusal A p
refusal S A H (Event.Mount p s key) = mount_refusal S A p s key
refusal S A H (Event.Unmount p) = unmount_refusal S A p
refusal S A H (Event.List p) = list_refusal A p
refusal S A H (Event.Stat p) = stat_refusal A p
refusal S A H (Event.Where p) = where_refusal A p
refusal S A H Event.Plans = stopped A
refusal S A H Event.Wanted = stopped A
refusal S A H (Event.Room l) = room_refusal S A H l
refusal S A H (Event.Put l fill) = put_refusal H l
refusal S A H (Event.Finish l) = finish_refusal S A H l
refusal S A H (Event.OpenFile l p kind w) = open_refusal S A H l p w
refusal S A H (Event.Next l) = next_refusal S A H l
refusal S A H (Event.Poll l max) = poll_refusal H l
refusal S A H (Event.Close l) = close_refusal H l
refusal S A H (Event.Job l p) = job_refusal S A H l p
refusal S A H (Event.Shift l w p i t) = shift_refusal S A H l w p i t
refusal S A H (Event.Copy l) = copy_refusal H l
refusal S A H (Event.Start w) = start_refusal S A w
refusal S A H (Event.Register w) = register_refusal S A w
refusal S A H (Event.Beat w) = beat_refusal S A w
refusal S A H Event.Tick = tick_refusal S A
refusal S A H (Event.Kill w) = kill_refusal S A w
refusal S A H (Event.Sweep w) = sweep_refusal S A w
refusal S A H (Event.Pump n) = pump_refusal S A n
refusal S A H Event.Checkpoint = checkpoint_refusal S A
refusal S A H (Event.Fuse calls) = None
refusal S A H Event.Restart = None

-- how much Poll and Copy take where the most comes
abbrev pub usual_amount : Setup → Hands → Event → ℕ
usual_amount S H (Event.Poll l max) = elim (stream_at H l) [ None ↦ 0 | Some s ↦ most s.bs (length s.bytes) s.at max ]
usual_amount S H (Event.Copy l) = elim (unbroken_at H l) [ None ↦ 0 | Some h ↦ most_copied S h ]
usual_amount S H _ = 0

-- an event that touches no label, and one that touches its actor's own labels alone
abbrev pub kept : Hands → Reply × State → Outcome
kept H o = (o.0, o.1, H)

-- an event that touches its actor's own labels alone
abbrev pub own : State → OwnOutcome → Outcome
own A o = (o.0, A, o.1)

-- what an accepted event answers and does, by what the machine chooses
abbrev pub accepted : Setup → Choices → State → Hands → ℕ → Event → Outcome
accepted S k A H who (Event.Mkdir p) = kept H (mkdir_outcome A p)
accepted S k A H who (Event.Create l p kind w) = create_outcome S A H l p kind w
accepted S k A H who (Event.Rename p q) = kept H (rename_outcome A p q)
accepted S k A H who (Event.Remove p deep) = kept H (remove_outcome A p)
accepted S k A H who (Event.Pin p on) = kept H (pin_outcome A p on)
accepted S k A H who (Event.Persist p) = kept H (persist_outcome A p)
accepted S k A H who (Event.Free p) = kept H (free_outcome A p)
accepted S k A H who (Event.Mount p s key) = kept H (mount_outcome A p s key)
accepted S k A H who (Event.Unmount p) = kept H (unmount_outcome A p)
accepted S k A H who (Event.List p) = kept H (list_outcome A p)
accepted S k A H who (Event.Stat p) = kept H (stat_outcome S A p)
accepted S k A H who (Event.Where p) = kept H (where_outcome A p)
accepted S k A H who Event.Plans = kept H (plans_outcome A)
accepted S k A H who Event.Wanted = kept H (wanted_outcome A)
accepted S k A H who (Event.Room l) = room_outcome S A H l
accepted S k A H who (Event.Put l fill) = own A (put_outcome S H l fill)
accepted S k A H who (Event.Finish l) = finish_outcome S A who H l
accepted S k A H who (Event.OpenFile l p kind w) = open_outcome S A H l p kind w
accepted S k A H who (Event.Next l) = next_outcome S k A who H l
accepted S k A H who (Event.Poll l max) = own A (poll_outcome S k H l)
accepted S k A H who (Event.Close l) = close_outcome S k A who H l
accepted S k A H who (Event.Job l p) = job_outcome S A H l p
accepted S k A H who (Event.Shift l w p i t) = shift_outcome S A who H l w p i t
accepted S k A H who (Event.Copy l) = own A (copy_outcome S k H l)
accepted S k A H who (Event.Start w) = kept H (start_outcome A w)
accepted S k A H who (Event.Register w) = kept H (register_outcome A w)
accepted S k A H who (Event.Beat w) = kept H (beat_outcome A w)
accepted S k A H who Event.Tick = kept H (tick_outcome S A)
accepted S k A H who (Event.Kill w) = kept H (kill_outcome A w)
accepted S k A H who (Event.Sweep w) = kept H (sweep_outcome A w)
accepted S k A H who (Event.Pump m) = kept H (pump_outcome S A m)
accepted S k A H who Event.Checkpoint = kept H (checkpoint_outcome A)
accepted S k A H who (Event.Fuse calls) = kept H (fuse_outcome A calls)
accepted S k A H who Event.Restart = kept H (restart_outcome k A)

-- a job whose Finish is idle ends; any other such answer leaves the state
abbrev pub idle_hands : Event → Reply → Hands → Hands
idle_hands (Event.Finish l) Reply.Idle H = end_hand l H
idle_hands e r H = H

-- the body after an event that is refused or idle
abbrev pub idle_body : ℕ → Event → Reply → State → State
idle_body who e r A = record A { holds = idle_holds e r }
  where
    idle_holds : Event → Reply → List HoldRow
    idle_holds (Event.Finish l) Reply.Idle = (release who l A).holds
    idle_holds e r = A.holds

-- what an event does, by its first test that holds
abbrev pub outcome_by : Setup → Choices → State → Hands → ℕ → Event → Option Reply → Outcome
outcome_by S k A H who e (Some r) = (r, idle_body who e r A, idle_hands e r H)
outcome_by S k A H who e None = accepted S k A H who e

-- what an event answers and does, where nothing fails
abbrev pub outcome : Setup → Choices → State → Hands → ℕ → Event → Outcome
outcome S k A H who e = outcome_by S k A H who e (refusal S A H e)

-- ---- all actors together

-- the labels of an actor
abbrev pub hands_of : Whole → ℕ → Hands
hands_of W who = get_or W.hands (pred who) []

-- the whole with this body and these labels of the actor
abbrev pub put_back : Whole → ℕ → State → Hands → Whole
put_back W who A H = record { body = A; hands = set W.hands (pred who) H }

-- the answers to a list of events, each taking the most that it may, where nothing fails
abbrev pub one_step : Setup → Whole → ℕ × Event → Outcome
one_step S W e = let H = hands_of W e.0 in outcome S (fault_free (usual_amount S H e.1)) W.body H e.0 e.1

-- the replies to a list of events
abbrev pub replies : Setup → Whole → List (ℕ × Event) → List Reply
replies S W [] = []
replies S W (e ∷ es) = let o = one_step S W e in o.0 ∷ replies S (put_back W e.0 o.1 o.2) es

-- the whole after a list of events
abbrev pub final : Setup → Whole → List (ℕ × Event) → Whole
final S W [] = W
final S W (e ∷ es) = let o = one_step S W e in final S (put_back W e.0 o.1 o.2) es
