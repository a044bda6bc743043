-- Laws above the definitions of the machine.
use Rattle.std.specs.Prelude.{◌≡◌, ◌≢◌, ℕ, pred, ◌≤◌, ◌<◌, ◌^◌, ◌||◌, nat_lt, Bool, true, false, IsTrue, List, length, Option, Some}
use Rattle.std.specs.Fmt.{decimal}
use Rattle.fs_model.specs.declared.setup.Setup.{Setup}
use Rattle.fs_model.specs.declared.event.Event.{Event}
use Rattle.fs_model.specs.declared.change.Change.{Change}
use Rattle.fs_model.specs.declared.reply.Reply.{Reply}
use Rattle.fs_model.specs.declared.reply.Refusal.{Refusal}
use Rattle.fs_model.specs.declared.reply.Line.{Line}
use Rattle.fs_model.specs.declared.path.Path.{Path}
use Rattle.fs_model.specs.declared.prefix.Prefix.{Prefix}
use Rattle.fs_model.specs.PathForm.{path_text, key_text}
use Rattle.fs_model.specs.Words.{number_text, path_len}
use Rattle.fs_model.specs.State.{State, Hands, Whole}
use Rattle.fs_model.specs.Changes.{after, key_len}
use Rattle.fs_model.specs.Faults.{Rise, Device, rose, clash, is_clash_at}
use Rattle.fs_model.specs.Step.{Step, journal_may_fail, WholeStep, Observation, Run, changes_of}

-- along every run the next file id and the next plan number never fall
abbrev pub NextNumbersNeverFall : Type 0
NextNumbersNeverFall = (S : Setup) (W V : Whole) (lines : List Line) (os : List Observation) → Run S W lines V os → (W.body.names.next_id ≤ V.body.names.next_id) × (W.body.names.next_plan ≤ V.body.names.next_plan)

-- the names after a run are the names before it with the run's changes, in order
abbrev pub NamesAreAfterChanges : Type 0
NamesAreAfterChanges = (S : Setup) (W V : Whole) (lines : List Line) (os : List Observation) → Run S W lines V os → V.body.names ≡ after W.body.names (changes_of os)

-- the reply is no refusal
abbrev pub is_acknowledged : Reply → Bool
is_acknowledged (Reply.Refused r) = false
is_acknowledged reply = true

-- only an acknowledged line makes a change
abbrev pub OnlyAcknowledgedChange : Type 0
OnlyAcknowledgedChange = (S : Setup) (A B : State) (who : ℕ) (H G : Hands) (e : Event) (reply : Reply) (rise : Rise) (c : Change) → Step S A who H e reply B G rise (Some c) → IsTrue (is_acknowledged reply)

-- Put, Poll and Copy touch their actor's own labels alone
abbrev pub is_own : Event → Bool
is_own (Event.Put l fill) = true
is_own (Event.Poll l limit) = true
is_own (Event.Copy l) = true
is_own e = false

-- an own event of one actor, and then any event of another, may stand in the other order: same replies, same state
abbrev pub OwnEventsMayComeLater : Type 0
OwnEventsMayComeLater = (S : Setup) (W M V : Whole) (own other : Line) (o p : Observation) → IsTrue (is_own own.event) → pred own.actor ≢ pred other.actor → WholeStep S W own M o → WholeStep S M other V p → (N : Whole) × WholeStep S W other N p × WholeStep S N own V o

-- and the other way round
abbrev pub OwnEventsMayComeEarlier : Type 0
OwnEventsMayComeEarlier = (S : Setup) (W M V : Whole) (own other : Line) (o p : Observation) → IsTrue (is_own own.event) → pred own.actor ≢ pred other.actor → WholeStep S W other M p → WholeStep S M own V o → (N : Whole) × WholeStep S W own N o × WholeStep S N other V p

-- a fault of a device in these events leaves a label broken or a reader dropped, or a call on a store that was done
abbrev pub fault_may_change : Event → Bool
fault_may_change (Event.Room l) = true
fault_may_change (Event.Put l fill) = true
fault_may_change (Event.Finish l) = true
fault_may_change (Event.Poll l limit) = true
fault_may_change (Event.Copy l) = true
fault_may_change (Event.Pump n) = true
fault_may_change (Event.Sweep w) = true
fault_may_change e = false

-- want of memory in these events may leave a block committed, a stream settled, or the master stopped
abbrev pub memory_may_change : Event → Bool
memory_may_change (Event.Room l) = true
memory_may_change (Event.Next l) = true
memory_may_change Event.Restart = true
memory_may_change e = false

-- the refusal in this event may leave another state than the one before
abbrev pub may_change : Event → Refusal → Bool
may_change e (Refusal.UnderFault s) = fault_may_change e
may_change e (Refusal.TierFault w) = fault_may_change e
may_change e Refusal.JournalFault = true
may_change e Refusal.Memory = memory_may_change e
may_change e (Refusal.Damaged area place) = true
may_change e r = false

-- a refused event leaves the state, but for the cases that are named
abbrev pub RefusedLeavesState : Type 0
RefusedLeavesState = (S : Setup) (A B : State) (who : ℕ) (H G : Hands) (e : Event) (r : Refusal) (rise : Rise) (made : Option Change) → Step S A who H e (Reply.Refused r) B G rise made → may_change e r ≡ false → (B ≡ A) × (G ≡ H)

-- and in every case it leaves the names
abbrev pub RefusedLeavesNames : Type 0
RefusedLeavesNames = (S : Setup) (A B : State) (who : ℕ) (H G : Hands) (e : Event) (r : Refusal) (rise : Rise) (made : Option Change) → Step S A who H e (Reply.Refused r) B G rise made → B.names ≡ A.names

-- ---- causes

-- the count of what the answer names rose in the event: of the tiers or the store, the journal, or the waits; a clash at the store and too short a fuse are causes too
abbrev pub is_caused : Setup → State → Hands → Event → Rise → Reply → Bool
is_caused S A H e r (Reply.Refused (Refusal.TierFault w)) = rose r (Device.TiersOf w)
is_caused S A H e r (Reply.Refused (Refusal.UnderFault s)) = rose r (Device.StoreOf s) || is_clash_at (clash A H e) (Device.StoreOf s)
is_caused S A H e r (Reply.Refused Refusal.JournalFault) = journal_may_fail S A H e r
is_caused S A H e r Reply.NotReady = nat_lt 0 r.waits
is_caused S A H e r reply = true

-- a fault or a wait is answered only where its cause is there
abbrev pub FaultsHaveCauses : Type 0
FaultsHaveCauses = (S : Setup) (A B : State) (who : ℕ) (H G : Hands) (e : Event) (reply : Reply) (rise : Rise) (made : Option Change) → Step S A who H e reply B G rise made → IsTrue (is_caused S A H e rise reply)

-- ---- texts

-- the text of a number in a key is its decimal one; std's word has 64 digits at most
abbrev pub NumberTextIsDecimal : Type 0
NumberTextIsDecimal = (n : ℕ) → n < 10 ^ 64 → number_text n ≡ decimal n

-- the lengths that the journal counts are those of the texts
abbrev pub PathLengthIsOfText : Type 0
PathLengthIsOfText = (p : Path) → path_len p ≡ length (path_text p)

-- the same of a key
abbrev pub KeyLengthIsOfText : Type 0
KeyLengthIsOfText = (k : Prefix) → key_len k ≡ length (key_text k)
