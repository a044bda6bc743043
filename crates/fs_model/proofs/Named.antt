-- The names after a step, and after a run, are those before it with the changes that were made.
use Rattle.std.proofs.Common.{◌≡◌, ℕ, Bool, true, false, Option, Some, None, option_and_then, cond, map, List, [], ◌∷◌, refl, ap, sym, ◌∙◌, arith}
use Rattle.fs_model.specs.declared.label.Label.{Label}
use Rattle.fs_model.specs.declared.setup.Setup.{Setup}
use Rattle.fs_model.specs.declared.event.Event.{Event}
use Rattle.fs_model.specs.declared.change.Change.{Change}
use Rattle.fs_model.specs.declared.reply.Reply.{Reply}
use Rattle.fs_model.specs.declared.reply.Line.{Line}
use Rattle.fs_model.specs.State.{State, Names, Whole, Doubt, Hands, Hand, Stream, Writer, Source, JobHand, Copied, PlanRow, OpenBlock}
use Rattle.fs_model.specs.Choices.{Choices}
use Rattle.fs_model.specs.Lookups.{hand_at, plan_at}
use Rattle.fs_model.specs.Words.{option_list}
use Rattle.fs_model.specs.Updates.{apply_if}
use Rattle.fs_model.specs.Changes.{after}
use Rattle.fs_model.specs.BytesEvents.{writer_at, unbroken_at}
use Rattle.fs_model.specs.BytesOutcomes.{Outcome, BodyAndHands, Candidate, next_by, next_among, next_within, next_at_end, job_among, job_within, job_at_end, room_by, room_if, open_cached_if, finish_by, shift_by, close_by}
use Rattle.fs_model.specs.NodesEvents.{sweep_outcome, restart_outcome, doubt_names}
use Rattle.fs_model.specs.Journaling.{change_of, finish_change, doubt_change}
use Rattle.fs_model.specs.Faults.{Rise, Remains, after_fault, finish_after_fault, writer_after_fault, pump_after_fault, block_lost_by}
use Rattle.fs_model.specs.Machine.{accepted}
use Rattle.fs_model.specs.Step.{Step, ShortOf, WholeStep, Observation, Run, change_made, changes_of}

-- ---- an accepted event

open_cached_if-names : (b : Bool) (S : Setup) (A : State) (H : Hands) (l : Label) (w : Writer) → (open_cached_if b S A H l w).0.names ≡ A.names
open_cached_if-names true S A H l w = refl
open_cached_if-names false S A H l w = refl

room_if-names : (b : Bool) (S : Setup) (A : State) (H : Hands) (l : Label) (w : Writer) → (room_if b S A H l w).0.names ≡ A.names
room_if-names true S A H l w = open_cached_if-names _ S _ H l w
room_if-names false S A H l w = refl

room_by-names : (S : Setup) (A : State) (H : Hands) (l : Label) (o : Option Writer) → (room_by S A H l o).0.names ≡ A.names
room_by-names S A H l None = refl
room_by-names S A H l (Some w) = room_if-names _ S A H l w

finish_by-names : (S : Setup) (A : State) (who : ℕ) (H : Hands) (l : Label) (o : Option Hand) → (finish_by S A who H l o).1.names ≡ apply_if (option_and_then (finish_change A) o) A.names
finish_by-names S A who H l None = refl
finish_by-names S A who H l (Some (Hand.Reading s)) = refl
finish_by-names S A who H l (Some (Hand.Writing s)) = refl
finish_by-names S A who H l (Some (Hand.Moving s)) = refl
finish_by-names S A who H l (Some (Hand.Storing s)) = refl

next_among-names : (S : Setup) (k : Choices) (A : State) (who : ℕ) (H : Hands) (l : Label) (s : Stream) (cs : List Candidate) → (next_among S k A who H l s cs).1.names ≡ A.names
next_among-names S k A who H l s [] = refl
next_among-names S k A who H l s (c ∷ cs) = refl

next_within-names : (S : Setup) (k : Choices) (A : State) (who : ℕ) (H : Hands) (l : Label) (s : Stream) (o : Option Source) → (next_within S k A who H l s o).1.names ≡ A.names
next_within-names S k A who H l s (Some src) = refl
next_within-names S k A who H l s None = next_among-names S k A who H l s _

next_at_end-names : (b : Bool) (S : Setup) (k : Choices) (A : State) (who : ℕ) (H : Hands) (l : Label) (s : Stream) → (next_at_end b S k A who H l s).1.names ≡ A.names
next_at_end-names true S k A who H l s = refl
next_at_end-names false S k A who H l s = next_within-names S k A who H l s _

job_among-names : (A : State) (who : ℕ) (H : Hands) (l : Label) (j : JobHand) (cs : List Candidate) → (job_among A who H l j cs).1.names ≡ A.names
job_among-names A who H l j [] = refl
job_among-names A who H l j (c ∷ cs) = refl

job_within-names : (S : Setup) (k : Choices) (A : State) (who : ℕ) (H : Hands) (l : Label) (j : JobHand) (o : Option Source) → (job_within S k A who H l j o).1.names ≡ A.names
job_within-names S k A who H l j (Some src) = refl
job_within-names S k A who H l j None = job_among-names A who H l j _

job_at_end-names : (b : Bool) (S : Setup) (k : Choices) (A : State) (who : ℕ) (H : Hands) (l : Label) (j : JobHand) → (job_at_end b S k A who H l j).1.names ≡ A.names
job_at_end-names true S k A who H l j = refl
job_at_end-names false S k A who H l j = job_within-names S k A who H l j _

next_by-names : (S : Setup) (k : Choices) (A : State) (who : ℕ) (H : Hands) (l : Label) (o : Option Hand) → (next_by S k A who H l o).1.names ≡ A.names
next_by-names S k A who H l None = refl
next_by-names S k A who H l (Some (Hand.Reading s)) = next_at_end-names _ S k A who H l s
next_by-names S k A who H l (Some (Hand.Writing w)) = refl
next_by-names S k A who H l (Some (Hand.Moving m)) = refl
next_by-names S k A who H l (Some (Hand.Storing j)) = job_at_end-names _ S k A who H l j

shift_by-names : (S : Setup) (A : State) (who : ℕ) (H : Hands) (l : Label) (w t : ℕ) (o : Option Copied) → (shift_by S A who H l w t o).1.names ≡ A.names
shift_by-names S A who H l w t None = refl
shift_by-names S A who H l w t (Some c) = refl

close_by-names : (S : Setup) (k : Choices) (A : State) (who : ℕ) (l : Label) (o : Option Hand) → (close_by S k A who l o).names ≡ A.names
close_by-names S k A who l None = refl
close_by-names S k A who l (Some (Hand.Reading s)) = refl
close_by-names S k A who l (Some (Hand.Writing w)) = refl
close_by-names S k A who l (Some (Hand.Moving m)) = refl
close_by-names S k A who l (Some (Hand.Storing j)) = refl

sweep_outcome-names : (A : State) (w : ℕ) → (sweep_outcome A w).1.names ≡ A.names
sweep_outcome-names A w = grind arith

pump_outcome-names : (S : Setup) (k : Choices) (A : State) (H : Hands) (who n : ℕ) → (accepted S k A H who (Event.Pump n)).1.names ≡ apply_if (change_of S A H (Event.Pump n)) A.names
pump_outcome-names S k A H who n = grind arith

-- the change in doubt is made where it is found
restart_outcome-names : (k : Choices) (A : State) → (restart_outcome k A).1.names ≡ apply_if (cond k.keeps (doubt_change A.master.doubt) None) A.names
restart_outcome-names k A = by k.keeps A.master.doubt
  where
    by : (b : Bool) (o : Option Doubt) → doubt_names (cond b o None) A.names ≡ apply_if (cond b (doubt_change o) None) A.names
    by true None = refl
    by true (Some (Doubt.InChange c bs)) = refl
    by true (Some Doubt.InCheckpoint) = refl
    by false o = refl

accepted-names : (S : Setup) (k : Choices) (A : State) (H : Hands) (who : ℕ) (e : Event) → (accepted S k A H who e).1.names ≡ apply_if (change_made S k A H e) A.names
accepted-names S k A H who (Event.Room l) = room_by-names S A H l (writer_at H l)
accepted-names S k A H who (Event.Finish l) = finish_by-names S A who H l (unbroken_at H l)
accepted-names S k A H who (Event.Next l) = next_by-names S k A who H l (unbroken_at H l)
accepted-names S k A H who (Event.Close l) = close_by-names S k A who l (hand_at H l)
accepted-names S k A H who (Event.Shift l w p i t) = shift_by-names S A who H l w t _
accepted-names S k A H who (Event.Sweep w) = sweep_outcome-names A w
accepted-names S k A H who (Event.Pump n) = pump_outcome-names S k A H who n
accepted-names S k A H who Event.Restart = restart_outcome-names k A
accepted-names S k A H who e = refl

-- ---- what a fault or want of memory leaves

writer_after_fault-names : (S : Setup) (x : Remains) (A : State) (H : Hands) (l : Label) (o : Option Writer) → (writer_after_fault S x A H l o).0.names ≡ A.names
writer_after_fault-names S x A H l None = refl
writer_after_fault-names S x A H l (Some w) = by w.block
  where
    by : (b : Option OpenBlock) → (block_lost_by S x A w b).names ≡ A.names
    by None = refl
    by (Some b) = refl

finish_after_fault-names : (S : Setup) (x : Remains) (A : State) (who : ℕ) (H : Hands) (l : Label) (o : Option Hand) → (finish_after_fault S x A who H l o).0.names ≡ A.names
finish_after_fault-names S x A who H l None = refl
finish_after_fault-names S x A who H l (Some (Hand.Reading s)) = refl
finish_after_fault-names S x A who H l (Some (Hand.Writing w)) = by w.block
  where
    by : (b : Option OpenBlock) → (block_lost_by S x A w b).names ≡ A.names
    by None = refl
    by (Some b) = refl
finish_after_fault-names S x A who H l (Some (Hand.Moving m)) = refl
finish_after_fault-names S x A who H l (Some (Hand.Storing j)) = refl

pump_after_fault-names : (x : Remains) (A : State) (o : Option PlanRow) → (pump_after_fault x A o).names ≡ A.names
pump_after_fault-names x A None = refl
pump_after_fault-names x A (Some r) = refl

after_fault-names : (S : Setup) (x : Remains) (A : State) (who : ℕ) (H : Hands) (e : Event) → (after_fault S x A who H e).0.names ≡ A.names
after_fault-names S x A who H (Event.Room l) = writer_after_fault-names S x A H l (writer_at H l)
after_fault-names S x A who H (Event.Finish l) = finish_after_fault-names S x A who H l (unbroken_at H l)
after_fault-names S x A who H (Event.Pump n) = pump_after_fault-names x A (plan_at A.names n)
after_fault-names S x A who H e = refl

ShortOf-names : {S : Setup} {A : State} {who : ℕ} {H : Hands} {B : State} {G : Hands} {rise : Rise} {e : Event} → ShortOf S A who H B G rise e → B.names ≡ A.names
ShortOf-names (ShortOf.Unchanged e other same hands) = ap (λ (X : State). X.names) same
ShortOf-names (ShortOf.RoomClosed l w accepts at full body hands) = ap (λ (X : State). X.names) body
ShortOf-names (ShortOf.NextSettled l k s c accepts at seeks may sought body hands) = ap (λ (X : State). X.names) body
ShortOf-names (ShortOf.Unrecovered body hands) = ap (λ (X : State). X.names) body

-- ---- a step

apply_if_none : {N M : Names} {made : Option Change} → N ≡ M → made ≡ None → N ≡ apply_if made M
apply_if_none {M = M} same none = same ∙ ap (λ o. apply_if o M) (sym none)

module _ {S : Setup} {A B : State} {who : ℕ} {H G : Hands} {e : Event} {reply : Reply} {rise : Rise} {made : Option Change} where
  pub Step-names : Step S A who H e reply B G rise made → B.names ≡ apply_if made A.names
  Step-names (Step.Refused answers body hands none) = apply_if_none (ap (λ (X : State). X.names) body) none
  Step-names (Step.Accepted k accepts clear serves may is change) = ap (λ (o : Outcome). o.1.names) is ∙ accepted-names S k A H who e ∙ ap (λ o. apply_if o A.names) (sym change)
  Step-names (Step.Failed x accepts may is none) = apply_if_none (ap (λ (o : BodyAndHands). o.0.names) is ∙ after_fault-names S x A who H e) none
  Step-names (Step.Stops x fuse accepts clear parks says doubts may shrinks body hands none) = apply_if_none (ap (λ (X : State). X.names) body ∙ after_fault-names S x A who H e) none
  Step-names (Step.Unrecovered restarts says rises body hands none) = apply_if_none (ap (λ (X : State). X.names) body) none
  Step-names (Step.Damaged area place restarts says body hands none) = apply_if_none (ap (λ (X : State). X.names) body) none
  Step-names (Step.Waits k accepts says may body hands none) = apply_if_none (ap (λ (X : State). X.names) body) none
  Step-names (Step.Short says short none) = apply_if_none (ShortOf-names short) none

-- ---- a run

WholeStep-names : {S : Setup} {W V : Whole} {line : Line} {o : Observation} → WholeStep S W line V o → V.body.names ≡ apply_if o.made W.body.names
WholeStep-names s = ap (λ (X : Whole). X.body.names) s.after ∙ Step-names s.step

after_one : (N : Names) (o : Option Change) (cs : List (Option Change)) → after (apply_if o N) (option_list cs) ≡ after N (option_list (o ∷ cs))
after_one N None cs = refl
after_one N (Some c) cs = refl

pub Run-names : (S : Setup) (W V : Whole) (lines : List Line) (os : List Observation) → Run S W lines V os → V.body.names ≡ after W.body.names (changes_of os)
Run-names S W V [] [] run = ap (λ (X : Whole). X.body.names) run
Run-names S W V [] (o ∷ os) run = absurd run
Run-names S W V (line ∷ lines) [] run = absurd run
Run-names S W V (line ∷ lines) (o ∷ os) run =
    Run-names S run.0 V lines os run.2 ∙ ap (λ N. after N (changes_of os)) (WholeStep-names run.1) ∙ after_one W.body.names o.made (map (λ x. x.made) os)
