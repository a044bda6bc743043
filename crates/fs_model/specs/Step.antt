-- One step of the machine, with all that it may answer and leave, and runs of steps.
use Rattle.std.specs.Prelude.{◌≡◌, ℕ, ◌<◌, Bool, true, false, cond, not, ◌&&◌, ◌||◌, IsTrue, List, [], ◌∷◌, length, take, drop, find, map, nat_eq, nat_lt, nat_le, Option, Some, None, is_some}
use Rattle.std.specs.List.{list_all}
use Rattle.fs_model.specs.declared.label.Label.{Label}
use Rattle.fs_model.specs.declared.setup.Setup.{Setup}
use Rattle.fs_model.specs.declared.event.Event.{Event}
use Rattle.fs_model.specs.declared.change.Change.{Change}
use Rattle.fs_model.specs.declared.reply.Reply.{Reply}
use Rattle.fs_model.specs.declared.reply.Refusal.{Refusal}
use Rattle.fs_model.specs.declared.reply.Line.{Line}
use Rattle.fs_model.specs.Words.{option_list}
use Rattle.fs_model.specs.State.{State, Whole, Doubt, Stream, Writer, Hand, Hands}
use Rattle.fs_model.specs.Choices.{Choices}
use Rattle.fs_model.specs.Lookups.{hand_at}
use Rattle.fs_model.specs.BytesEvents.{block_wanted, unbroken_at, stream_at, writer_at}
use Rattle.fs_model.specs.BytesOutcomes.{spoil_if, Candidate, most, most_copied, bare, settled, use_hold, close_block, BodyAndHands, Outcome}
use Rattle.fs_model.specs.Updates.{set_hand, release}
use Rattle.fs_model.specs.Journaling.{change_of, calls_needed, fuse_serves, fuse_shrinks, doubt_of, doubt_change}
use Rattle.fs_model.specs.Faults.{Rise, Device, rose, source_rose, clash, Remains, after_fault, seeks_source, sources_for, may_fail, by_hand}
use Rattle.fs_model.specs.Machine.{refusal, accepted, idle_body, idle_hands, hands_of, put_back}

-- ---- what the machine may choose

-- the worker at which a stream caches
abbrev pub cache_worker : Stream → ℕ
cache_worker s = elim s.cache [ None ↦ s.worker | Some c ↦ c.room.worker ]

-- the sources before the one that is taken failed
abbrev pub passed_rose : Rise → ℕ → List Candidate → Bool
passed_rose r n cs = list_all (λ (c : Candidate). source_rose r c.0) (take n cs) && (nat_eq n 0 || nat_lt n (length cs))

-- a cache is lost, not made or spoiled only where its tier's count rose
abbrev pub device_choices : Rise → Choices → Hand → Bool
device_choices r k (Hand.Reading s) =
    (k.settles || rose r (Device.TiersOf (cache_worker s))) && (k.caches || rose r (Device.TiersOf s.worker)) && (not k.spoils || rose r (Device.TiersOf (cache_worker s)))
device_choices r k (Hand.Writing w) = k.settles && k.caches && not k.spoils
device_choices r k (Hand.Moving m) = k.settles && k.caches && not k.spoils
device_choices r k (Hand.Storing j) = k.settles && k.caches && not k.spoils

-- the same of a label, if there is one
abbrev pub label_choices : Rise → Choices → Option Hand → Bool
label_choices r k None = true
label_choices r k (Some h) = device_choices r k h

-- an amount is 1 to the most that there is; where there is nothing it doesn't count
abbrev pub amount_choice : ℕ → ℕ → Bool
amount_choice n upper = nat_eq upper 0 || (nat_le 1 n && nat_le n upper)

-- the machine may choose so in this event
abbrev pub may_choose : Setup → State → Hands → Event → Rise → Choices → Bool
may_choose S A H (Event.Poll l max) r k = label_choices r k (hand_at H l) && elim (stream_at H l) [ None ↦ true | Some s ↦ amount_choice k.amount (most s.bs (length s.bytes) s.at max) ]
may_choose S A H (Event.Copy l) r k = elim (unbroken_at H l) [ None ↦ true | Some h ↦ amount_choice k.amount (most_copied S h) ]
may_choose S A H (Event.Next l) r k = label_choices r k (hand_at H l) && elim (unbroken_at H l) [ None ↦ true | Some h ↦ passed_rose r k.passed (sources_for S A h) ]
may_choose S A H (Event.Close l) r k = label_choices r k (hand_at H l)
may_choose S A H e r k = true

-- ---- a reader that isn't ready

-- its cache may be spoiled
abbrev pub waiting_hand : Bool → Hand → Hand
waiting_hand spoils (Hand.Reading s) = Hand.Reading (record s { cache = spoil_if spoils s.cache })
waiting_hand spoils (Hand.Writing w) = Hand.Writing w
waiting_hand spoils (Hand.Moving m) = Hand.Moving m
waiting_hand spoils (Hand.Storing j) = Hand.Storing j

-- the labels after a reader wasn't ready
abbrev pub waited_by : Bool → Hands → Label → Option Hand → Hands
waited_by spoils H l None = H
waited_by spoils H l (Some h) = set_hand l (waiting_hand spoils h) H

-- the labels after an event that wasn't ready
abbrev pub waited : Choices → Hands → Event → Hands
waited k H (Event.Poll l max) = waited_by k.spoils H l (hand_at H l)
waited k H e = H

-- only a reader makes an event wait
abbrev pub reads_on : Hand → Bool
reads_on (Hand.Reading s) = is_some s.source
reads_on (Hand.Writing w) = false
reads_on (Hand.Moving m) = nat_lt m.copied m.len
reads_on (Hand.Storing j) = is_some j.source

-- the event may answer that its reader isn't ready
abbrev pub may_wait : Hands → Event → Rise → Choices → Bool
may_wait H (Event.Poll l max) r k = nat_lt 0 r.waits && by_hand (λ h. reads_on h && device_choices r k h) (unbroken_at H l)
may_wait H (Event.Copy l) r k = nat_lt 0 r.waits && by_hand reads_on (unbroken_at H l)
may_wait H e r k = false

-- ---- the journal fails

-- the master stops with this in doubt and this fuse
abbrev pub stopped_with : Option Doubt → Option ℕ → State → State
stopped_with doubt fuse A = record A { master = record A.master { up = false; fuse = fuse; doubt = doubt } }

-- the journal's own count rose, or the fuse was too short
abbrev pub journal_may_fail : Setup → State → Hands → Event → Rise → Bool
journal_may_fail S A H e r = nat_lt 0 r.journal || not (fuse_serves A.master.fuse (calls_needed S A H e))

-- a Restart that fails leaves what is in doubt as it was
abbrev pub unrecovered : State → State
unrecovered A = stopped_with A.master.doubt None A

-- ---- want of memory

-- the event is a Restart
abbrev pub is_restart : Event → Bool
is_restart Event.Restart = true
is_restart e = false

-- the source that Next was to take, after those that failed
abbrev pub source_sought : Setup → Choices → State → Stream → Option Candidate
source_sought S k A s = find (λ (c : Candidate). true) (drop k.passed (sources_for S A (Hand.Reading s)))

-- what want of memory may leave: Room may have committed its full block, Next may have settled its stream, and a Restart leaves the master stopped
pub data ShortOf (S : Setup) (A : State) (who : ℕ) (H : Hands) (B : State) (G : Hands) (rise : Rise) : Event → Type 0 where
  Unchanged : (e : Event) → IsTrue (not (is_restart e)) → B ≡ A → G ≡ H → ShortOf S A who H B G rise e
  RoomClosed : (l : Label) (w : Writer) → refusal S A H (Event.Room l) ≡ None → writer_at H l ≡ Some w → IsTrue (block_wanted w.bs w.block) → B ≡ close_block S A w → G ≡ set_hand l (Hand.Writing (record w { block = None })) H → ShortOf S A who H B G rise (Event.Room l)
  NextSettled : (l : Label) (k : Choices) (s : Stream) (c : Candidate) → refusal S A H (Event.Next l) ≡ None → stream_at H l ≡ Some s → IsTrue (seeks_source (Hand.Reading s)) → IsTrue (may_choose S A H (Event.Next l) rise k) → source_sought S k A s ≡ Some c → B ≡ release who l (settled S k (use_hold c.1 A) s) → G ≡ set_hand l (Hand.Reading (bare s)) H → ShortOf S A who H B G rise (Event.Next l)
  Unrecovered : B ≡ unrecovered A → G ≡ H → ShortOf S A who H B G rise Event.Restart

-- ---- the step

-- the change that an accepted event makes: its own, or at a Restart the one in doubt, where it is found
abbrev pub change_made : Setup → Choices → State → Hands → Event → Option Change
change_made S k A H Event.Restart = cond k.keeps (doubt_change A.master.doubt) None
change_made S k A H e = change_of S A H e

-- one step of an actor: the body and its labels before, the answer, the body and its labels after, and the change that became one of the journal's
pub data Step (S : Setup) (A : State) (who : ℕ) (H : Hands) (e : Event) (reply : Reply) (B : State) (G : Hands) (rise : Rise) (made : Option Change) : Type 0 where
  -- the first test that holds answers
  Refused : refusal S A H e ≡ Some reply → B ≡ idle_body who e reply A → G ≡ idle_hands e reply H → made ≡ None → Step S A who H e reply B G rise made
  -- the event is done
  Accepted : (k : Choices) → refusal S A H e ≡ None → clash A H e ≡ None → IsTrue (fuse_serves A.master.fuse (calls_needed S A H e)) → IsTrue (may_choose S A H e rise k) → ◌≡◌ {A = Outcome} (reply, B, G) (accepted S k A H who e) → made ≡ change_made S k A H e → Step S A who H e reply B G rise made
  -- a tier or a store failed
  Failed : (x : Remains) → refusal S A H e ≡ None → IsTrue (may_fail S x A H e rise reply) → ◌≡◌ {A = BodyAndHands} (B, G) (after_fault S x A who H e) → made ≡ None → Step S A who H e reply B G rise made
  -- the journal failed, after the call on the store: a finished object waits there, and the change is in doubt
  Stops : (x : Remains) (fuse : Option ℕ) → refusal S A H e ≡ None → clash A H e ≡ None → IsTrue x.parks → reply ≡ Reply.Refused Refusal.JournalFault → IsTrue (is_some (doubt_of S A H e)) → IsTrue (journal_may_fail S A H e rise) → IsTrue (fuse_shrinks A.master.fuse fuse) → B ≡ stopped_with (doubt_of S A H e) fuse (after_fault S x A who H e).0 → G ≡ (after_fault S x A who H e).1 → made ≡ None → Step S A who H e reply B G rise made
  -- recovery failed
  Unrecovered : e ≡ Event.Restart → reply ≡ Reply.Refused Refusal.JournalFault → 0 < rise.journal → B ≡ unrecovered A → G ≡ H → made ≡ None → Step S A who H e reply B G rise made
  -- recovery found a damaged area
  Damaged : (area place : ℕ) → e ≡ Event.Restart → reply ≡ Reply.Refused (Refusal.Damaged area place) → B ≡ unrecovered A → G ≡ H → made ≡ None → Step S A who H e reply B G rise made
  -- the reader isn't ready
  Waits : (k : Choices) → refusal S A H e ≡ None → reply ≡ Reply.NotReady → IsTrue (may_wait H e rise k) → B ≡ A → G ≡ waited k H e → made ≡ None → Step S A who H e reply B G rise made
  -- want of memory
  Short : reply ≡ Reply.Refused Refusal.Memory → ShortOf S A who H B G rise e → made ≡ None → Step S A who H e reply B G rise made

-- what is known of a step besides its line: by how much the counts rose, and the change that became one of the journal's
pub record Observation : Type 0 where
  pub rise : Rise
  pub made : Option Change

-- a step of the whole: only that actor's labels move
pub record WholeStep (S : Setup) (W : Whole) (line : Line) (V : Whole) (seen : Observation) : Type 0 where
  pub body : State
  pub hands : Hands
  pub step : Step S W.body line.actor (hands_of W line.actor) line.event line.reply body hands seen.rise seen.made
  pub after : V ≡ put_back W line.actor body hands

-- the lines are a run: one step after the other, with one observation a line
abbrev pub Run : Setup → Whole → List Line → Whole → List Observation → Type 0
Run S W [] V [] = V ≡ W
Run S W (line ∷ lines) V (o ∷ os) = (M : Whole) × WholeStep S W line M o × Run S M lines V os
Run S W [] V (o ∷ os) = ⊥
Run S W (line ∷ lines) V [] = ⊥

-- the changes of a run in the journal's order: those of the acknowledged lines, and each change in doubt at the restart that found it
abbrev pub changes_of : List Observation → List Change
changes_of os = option_list (map (λ o. o.made) os)
