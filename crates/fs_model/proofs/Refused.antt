-- Which replies an accepted event gives, and what a refused one leaves.
use Rattle.std.proofs.Common.{◌≡◌, ℕ, Bool, true, false, Option, Some, None, IsTrue, List, [], ◌∷◌, refl, sym, ap, ◌∙◌, true≢false, arith}
use Rattle.fs_model.specs.declared.label.Label.{Label}
use Rattle.fs_model.specs.declared.setup.Setup.{Setup}
use Rattle.fs_model.specs.declared.event.Event.{Event}
use Rattle.fs_model.specs.declared.event.Fill.{Fill}
use Rattle.fs_model.specs.declared.change.Change.{Change}
use Rattle.fs_model.specs.declared.reply.Reply.{Reply}
use Rattle.fs_model.specs.declared.reply.Refusal.{Refusal}
use Rattle.fs_model.specs.declared.reply.Stored.{Stored}
use Rattle.fs_model.specs.Choices.{Choices}
use Rattle.fs_model.specs.State.{State, Hands, Hand, Stream, Writer, Source, JobHand, Copied, File}
use Rattle.fs_model.specs.Lookups.{file_at}
use Rattle.fs_model.specs.NamesOutcomes.{begun_if, stat_of}
use Rattle.fs_model.specs.BytesEvents.{writer_at, stream_at, unbroken_at}
use Rattle.fs_model.specs.BytesOutcomes.{Outcome, BodyAndHands, Candidate, from_reply, begun_by, put_if, put_by, next_by, next_among, next_within, next_at_end, job_among, job_within, job_at_end, finish_by, shift_by, poll_by, copy_by}
use Rattle.fs_model.specs.NodesEvents.{beat_outcome, sweep_outcome, pump_outcome}
use Rattle.fs_model.specs.Machine.{accepted, idle_body, idle_hands}
use Rattle.fs_model.specs.Faults.{Rise, Remains, after_fault, may_fail}
use Rattle.fs_model.specs.Step.{Step, ShortOf}
use Rattle.fs_model.specs.Updates.{apply_if}
use Rattle.fs_model.specs.Laws.{is_acknowledged, fault_may_change, memory_may_change, may_change}
use Rattle.fs_model.proofs.Named.{Step-names}

-- nothing is both false and true
pub never : {X : Type 0} → false ≡ true → X
never h = absurd (true≢false (sym h))

-- ---- the reply of an accepted event is no refusal and no wait

abbrev pub is_answer : Reply → Bool
is_answer (Reply.Refused r) = false
is_answer Reply.NotReady = false
is_answer reply = true

abbrev pub IsAnswer : Reply → Type 0
IsAnswer reply = is_answer reply ≡ true

IsAnswer-begun_if : (b : Bool) (A : State) → IsAnswer (begun_if b A)
IsAnswer-begun_if true A = refl
IsAnswer-begun_if false A = refl

IsAnswer-stat_of : (S : Setup) (A : State) (o : Option File) → IsAnswer (stat_of S A o)
IsAnswer-stat_of S A None = refl
IsAnswer-stat_of S A (Some f) = refl

IsAnswer-put_if : (b : Bool) (S : Setup) (H : Hands) (l : Label) (fill : Fill) (w : Writer) → IsAnswer (put_if b S H l fill w).0
IsAnswer-put_if true S H l fill w = refl
IsAnswer-put_if false S H l fill w = refl

IsAnswer-put_by : (S : Setup) (H : Hands) (l : Label) (fill : Fill) (o : Option Writer) → IsAnswer (put_by S H l fill o).0
IsAnswer-put_by S H l fill None = refl
IsAnswer-put_by S H l fill (Some w) = IsAnswer-put_if _ S H l fill w

IsAnswer-begun_by : (s : Stored) (A : State) → IsAnswer (begun_by s A)
IsAnswer-begun_by Stored.No A = refl
IsAnswer-begun_by Stored.Wanted A = refl
IsAnswer-begun_by Stored.Yes A = refl

IsAnswer-finish_by : (S : Setup) (A : State) (who : ℕ) (H : Hands) (l : Label) (o : Option Hand) → IsAnswer (finish_by S A who H l o).0
IsAnswer-finish_by S A who H l None = refl
IsAnswer-finish_by S A who H l (Some (Hand.Reading s)) = refl
IsAnswer-finish_by S A who H l (Some (Hand.Writing w)) = IsAnswer-begun_by _ A
IsAnswer-finish_by S A who H l (Some (Hand.Moving m)) = refl
IsAnswer-finish_by S A who H l (Some (Hand.Storing j)) = refl

IsAnswer-from_reply : (src : Source) → IsAnswer (from_reply src)
IsAnswer-from_reply (Source.AtWorker w t) = refl
IsAnswer-from_reply (Source.AtStore s) = refl

IsAnswer-next_among : (S : Setup) (k : Choices) (A : State) (who : ℕ) (H : Hands) (l : Label) (s : Stream) (cs : List Candidate) → IsAnswer (next_among S k A who H l s cs).0
IsAnswer-next_among S k A who H l s [] = refl
IsAnswer-next_among S k A who H l s (c ∷ cs) = IsAnswer-from_reply c.0

IsAnswer-next_within : (S : Setup) (k : Choices) (A : State) (who : ℕ) (H : Hands) (l : Label) (s : Stream) (o : Option Source) → IsAnswer (next_within S k A who H l s o).0
IsAnswer-next_within S k A who H l s (Some src) = IsAnswer-from_reply src
IsAnswer-next_within S k A who H l s None = IsAnswer-next_among S k A who H l s _

IsAnswer-next_at_end : (b : Bool) (S : Setup) (k : Choices) (A : State) (who : ℕ) (H : Hands) (l : Label) (s : Stream) → IsAnswer (next_at_end b S k A who H l s).0
IsAnswer-next_at_end true S k A who H l s = refl
IsAnswer-next_at_end false S k A who H l s = IsAnswer-next_within S k A who H l s _

IsAnswer-job_among : (A : State) (who : ℕ) (H : Hands) (l : Label) (j : JobHand) (cs : List Candidate) → IsAnswer (job_among A who H l j cs).0
IsAnswer-job_among A who H l j [] = refl
IsAnswer-job_among A who H l j (c ∷ cs) = IsAnswer-from_reply c.0

IsAnswer-job_within : (S : Setup) (k : Choices) (A : State) (who : ℕ) (H : Hands) (l : Label) (j : JobHand) (o : Option Source) → IsAnswer (job_within S k A who H l j o).0
IsAnswer-job_within S k A who H l j (Some src) = IsAnswer-from_reply src
IsAnswer-job_within S k A who H l j None = IsAnswer-job_among A who H l j _

IsAnswer-job_at_end : (b : Bool) (S : Setup) (k : Choices) (A : State) (who : ℕ) (H : Hands) (l : Label) (j : JobHand) → IsAnswer (job_at_end b S k A who H l j).0
IsAnswer-job_at_end true S k A who H l j = refl
IsAnswer-job_at_end false S k A who H l j = IsAnswer-job_within S k A who H l j _

IsAnswer-next_by : (S : Setup) (k : Choices) (A : State) (who : ℕ) (H : Hands) (l : Label) (o : Option Hand) → IsAnswer (next_by S k A who H l o).0
IsAnswer-next_by S k A who H l None = refl
IsAnswer-next_by S k A who H l (Some (Hand.Reading s)) = IsAnswer-next_at_end _ S k A who H l s
IsAnswer-next_by S k A who H l (Some (Hand.Writing w)) = refl
IsAnswer-next_by S k A who H l (Some (Hand.Moving m)) = refl
IsAnswer-next_by S k A who H l (Some (Hand.Storing j)) = IsAnswer-job_at_end _ S k A who H l j

IsAnswer-poll_by : (S : Setup) (k : Choices) (H : Hands) (l : Label) (o : Option Stream) → IsAnswer (poll_by S k H l o).0
IsAnswer-poll_by S k H l None = refl
IsAnswer-poll_by S k H l (Some s) = grind arith

IsAnswer-copy_by : (S : Setup) (H : Hands) (l : Label) (n : ℕ) (o : Option Hand) → IsAnswer (copy_by S H l n o).0
IsAnswer-copy_by S H l n None = refl
IsAnswer-copy_by S H l n (Some (Hand.Reading s)) = refl
IsAnswer-copy_by S H l n (Some (Hand.Writing w)) = refl
IsAnswer-copy_by S H l n (Some (Hand.Moving m)) = grind arith
IsAnswer-copy_by S H l n (Some (Hand.Storing j)) = grind arith

IsAnswer-shift_by : (S : Setup) (A : State) (who : ℕ) (H : Hands) (l : Label) (w t : ℕ) (o : Option Copied) → IsAnswer (shift_by S A who H l w t o).0
IsAnswer-shift_by S A who H l w t None = refl
IsAnswer-shift_by S A who H l w t (Some c) = refl

IsAnswer-beat_outcome : (A : State) (w : ℕ) → IsAnswer (beat_outcome A w).0
IsAnswer-beat_outcome A w = grind arith

IsAnswer-sweep_outcome : (A : State) (w : ℕ) → IsAnswer (sweep_outcome A w).0
IsAnswer-sweep_outcome A w = grind arith

IsAnswer-pump_outcome : (S : Setup) (A : State) (n : ℕ) → IsAnswer (pump_outcome S A n).0
IsAnswer-pump_outcome S A n = grind arith

pub IsAnswer-accepted : (S : Setup) (k : Choices) (A : State) (H : Hands) (who : ℕ) (e : Event) → IsAnswer (accepted S k A H who e).0
IsAnswer-accepted S k A H who (Event.Rename p q) = IsAnswer-begun_if _ A
IsAnswer-accepted S k A H who (Event.Remove p deep) = IsAnswer-begun_if _ A
IsAnswer-accepted S k A H who (Event.Stat p) = IsAnswer-stat_of S A (file_at A.names p)
IsAnswer-accepted S k A H who (Event.Put l fill) = IsAnswer-put_by S H l fill (writer_at H l)
IsAnswer-accepted S k A H who (Event.Finish l) = IsAnswer-finish_by S A who H l (unbroken_at H l)
IsAnswer-accepted S k A H who (Event.Next l) = IsAnswer-next_by S k A who H l (unbroken_at H l)
IsAnswer-accepted S k A H who (Event.Poll l limit) = IsAnswer-poll_by S k H l (stream_at H l)
IsAnswer-accepted S k A H who (Event.Copy l) = IsAnswer-copy_by S H l k.amount (unbroken_at H l)
IsAnswer-accepted S k A H who (Event.Shift l w p i t) = IsAnswer-shift_by S A who H l w t _
IsAnswer-accepted S k A H who (Event.Beat w) = IsAnswer-beat_outcome A w
IsAnswer-accepted S k A H who (Event.Sweep w) = IsAnswer-sweep_outcome A w
IsAnswer-accepted S k A H who (Event.Pump n) = IsAnswer-pump_outcome S A n
IsAnswer-accepted S k A H who e = refl

-- ---- only an acknowledged line makes a change

answer_is_acknowledged : (reply : Reply) → IsAnswer reply → is_acknowledged reply ≡ true
answer_is_acknowledged (Reply.Refused r) h = never h
answer_is_acknowledged Reply.NotReady h = refl
answer_is_acknowledged reply h = refl

unlike : {X : Type 0} {c : Change} → Some c ≡ None → X
unlike h = cc

pub change_is_acknowledged : (S : Setup) (A B : State) (who : ℕ) (H G : Hands) (e : Event) (reply : Reply) (rise : Rise) (c : Change) → Step S A who H e reply B G rise (Some c) → IsTrue (is_acknowledged reply)
change_is_acknowledged S A B who H G e reply rise c (Step.Accepted k accepts clear serves may is change) = ap (λ (o : Outcome). is_acknowledged o.0) is ∙ answer_is_acknowledged _ (IsAnswer-accepted S k A H who e)
change_is_acknowledged S A B who H G e reply rise c (Step.Refused answers body hands none) = unlike none
change_is_acknowledged S A B who H G e reply rise c (Step.Failed x accepts may is none) = unlike none
change_is_acknowledged S A B who H G e reply rise c (Step.Stops x fuse accepts clear parks says doubts may shrinks body hands none) = unlike none
change_is_acknowledged S A B who H G e reply rise c (Step.Unrecovered restarts says rises body hands none) = unlike none
change_is_acknowledged S A B who H G e reply rise c (Step.Damaged area place restarts says body hands none) = unlike none
change_is_acknowledged S A B who H G e reply rise c (Step.Waits k accepts says may body hands none) = unlike none
change_is_acknowledged S A B who H G e reply rise c (Step.Short says short none) = unlike none

-- ---- a refused event leaves the names

refused_makes_none : (S : Setup) (A B : State) (who : ℕ) (H G : Hands) (e : Event) (r : Refusal) (rise : Rise) (made : Option Change) → Step S A who H e (Reply.Refused r) B G rise made → made ≡ None
refused_makes_none S A B who H G e r rise None step = refl
refused_makes_none S A B who H G e r rise (Some c) step = never (change_is_acknowledged S A B who H G e (Reply.Refused r) rise c step)

pub refused_leaves_names : (S : Setup) (A B : State) (who : ℕ) (H G : Hands) (e : Event) (r : Refusal) (rise : Rise) (made : Option Change) → Step S A who H e (Reply.Refused r) B G rise made → B.names ≡ A.names
refused_leaves_names S A B who H G e r rise made step = Step-names step ∙ ap (λ o. apply_if o A.names) (refused_makes_none S A B who H G e r rise made step)

-- ---- and the state, but for the cases that are named

idle_body_refused : (A : State) (who : ℕ) (e : Event) (r : Refusal) → idle_body who e (Reply.Refused r) A ≡ A
idle_body_refused A who (Event.Finish l) r = refl
idle_body_refused A who e r = refl

idle_hands_refused : (H : Hands) (e : Event) (r : Refusal) → idle_hands e (Reply.Refused r) H ≡ H
idle_hands_refused H (Event.Finish l) r = refl
idle_hands_refused H e r = refl

-- only a fault of a tier or a store is the answer of a device
failed_may_change : (S : Setup) (x : Remains) (A : State) (H : Hands) (e : Event) (rise : Rise) (r : Refusal) → IsTrue (may_fail S x A H e rise (Reply.Refused r)) → may_change e r ≡ fault_may_change e
failed_may_change S x A H e rise (Refusal.UnderFault s) h = refl
failed_may_change S x A H e rise (Refusal.TierFault w) h = refl
failed_may_change S x A H e rise r h = never h

after_fault_unchanged : (S : Setup) (x : Remains) (A : State) (who : ℕ) (H : Hands) (e : Event) → fault_may_change e ≡ false → after_fault S x A who H e ≡ (A, H)
after_fault_unchanged S x A who H (Event.Room l) h = never (sym h)
after_fault_unchanged S x A who H (Event.Put l fill) h = never (sym h)
after_fault_unchanged S x A who H (Event.Finish l) h = never (sym h)
after_fault_unchanged S x A who H (Event.Poll l limit) h = never (sym h)
after_fault_unchanged S x A who H (Event.Copy l) h = never (sym h)
after_fault_unchanged S x A who H (Event.Pump n) h = never (sym h)
after_fault_unchanged S x A who H (Event.Sweep w) h = never (sym h)
after_fault_unchanged S x A who H e h = refl

ShortOf_unchanged : {S : Setup} {A : State} {who : ℕ} {H : Hands} {B : State} {G : Hands} {rise : Rise} {e : Event} → memory_may_change e ≡ false → ShortOf S A who H B G rise e → (B ≡ A) × (G ≡ H)
ShortOf_unchanged h (ShortOf.Unchanged e other body hands) = (body, hands)
ShortOf_unchanged h (ShortOf.RoomClosed l w accepts at full body hands) = never (sym h)
ShortOf_unchanged h (ShortOf.NextSettled l k s c accepts at seeks may sought body hands) = never (sym h)
ShortOf_unchanged h (ShortOf.Unrecovered body hands) = never (sym h)

-- the reason that a reply gives
reason : Refusal → Reply → Refusal
reason other (Reply.Refused r) = r
reason other reply = other

may_change_as : (e : Event) (r q : Refusal) → Reply.Refused r ≡ Reply.Refused q → may_change e r ≡ false → may_change e q ≡ false
unfolding reason
may_change_as e r q is h = ap (λ x. may_change e (reason r x)) (sym is) ∙ h

pub refused_leaves_state : (S : Setup) (A B : State) (who : ℕ) (H G : Hands) (e : Event) (r : Refusal) (rise : Rise) (made : Option Change) → Step S A who H e (Reply.Refused r) B G rise made → may_change e r ≡ false → (B ≡ A) × (G ≡ H)
refused_leaves_state S A B who H G e r rise made (Step.Refused answers body hands none) h = (body ∙ idle_body_refused A who e r, hands ∙ idle_hands_refused H e r)
refused_leaves_state S A B who H G e r rise made (Step.Accepted k accepts clear serves may is change) h = never (ap (λ (o : Outcome). is_acknowledged o.0) is ∙ answer_is_acknowledged _ (IsAnswer-accepted S k A H who e))
refused_leaves_state S A B who H G e r rise made (Step.Failed x accepts may is none) h =
    let same = is ∙ after_fault_unchanged S x A who H e (sym (failed_may_change S x A H e rise r may) ∙ h) in
    (ap (λ (o : BodyAndHands). o.0) same, ap (λ (o : BodyAndHands). o.1) same)
refused_leaves_state S A B who H G e r rise made (Step.Stops x fuse accepts clear parks says doubts may shrinks body hands none) h = never (sym (may_change_as e r Refusal.JournalFault says h))
refused_leaves_state S A B who H G e r rise made (Step.Unrecovered restarts says rises body hands none) h = never (sym (may_change_as e r Refusal.JournalFault says h))
refused_leaves_state S A B who H G e r rise made (Step.Damaged area place restarts says body hands none) h = never (sym (may_change_as e r (Refusal.Damaged area place) says h))
refused_leaves_state S A B who H G e r rise made (Step.Waits k accepts says may body hands none) h = never (ap is_acknowledged says)
refused_leaves_state S A B who H G e r rise made (Step.Short says short none) h = ShortOf_unchanged (may_change_as e r Refusal.Memory says h) short
