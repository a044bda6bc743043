-- The machine has no fuse before a script sets one.
use Rattle.std.proofs.Common.{◌≡◌, ℕ, Bool, true, false, Option, Some, None, List, [], ◌∷◌, refl, ap, sym, ◌∙◌, true≢false, arith}
use Rattle.std.specs.Prelude.{IsTrue}
use Rattle.fs_model.specs.declared.label.Label.{Label}
use Rattle.fs_model.specs.declared.setup.Setup.{Setup}
use Rattle.fs_model.specs.declared.event.Event.{Event}
use Rattle.fs_model.specs.declared.change.Change.{Change}
use Rattle.fs_model.specs.declared.reply.Reply.{Reply}
use Rattle.fs_model.specs.declared.reply.Line.{Line}
use Rattle.fs_model.specs.State.{State, Whole, Hands, Hand, Stream, Writer, Source, JobHand, Copied, Master, OpenBlock, PlanRow}
use Rattle.fs_model.specs.Choices.{Choices}
use Rattle.fs_model.specs.Lookups.{hand_at, plan_at}
use Rattle.fs_model.specs.Updates.{journaled, spend}
use Rattle.fs_model.specs.NamesEvents.{mkdir_change, create_change, rename_change, remove_change, persist_change, mount_change}
use Rattle.fs_model.specs.BytesEvents.{writer_at, unbroken_at}
use Rattle.fs_model.specs.BytesOutcomes.{Outcome, BodyAndHands, Candidate, next_by, next_among, next_within, next_at_end, job_among, job_within, job_at_end, room_by, room_if, open_cached_if, finish_by, shift_by, close_by}
use Rattle.fs_model.specs.NodesEvents.{checkpoint_calls, due, lost_change, seen_change, sweep_outcome, pump_outcome}
use Rattle.fs_model.specs.Journaling.{fuse_shrinks}
use Rattle.fs_model.specs.Faults.{Rise, Remains, after_fault, finish_after_fault, writer_after_fault, pump_after_fault, block_lost_by}
use Rattle.fs_model.specs.Machine.{accepted}
use Rattle.fs_model.specs.Step.{Step, ShortOf, WholeStep, Observation}
use Rattle.play_run.specs.Sums.{sets_fuse}

-- the state has no fuse
abbrev IsBare : State → Type 0
IsBare A = A.master.fuse ≡ None

-- ---- an accepted event

journaled-bare : (o : Option Change) (M : Master) → M.fuse ≡ None → (journaled o M).fuse ≡ None
journaled-bare None M bare = bare
journaled-bare (Some c) M bare = ap (spend 4) bare

open_cached_if-bare : (b : Bool) (S : Setup) (A : State) (H : Hands) (l : Label) (w : Writer) → IsBare A → IsBare (open_cached_if b S A H l w).0
open_cached_if-bare true S A H l w bare = bare
open_cached_if-bare false S A H l w bare = bare

room_if-bare : (b : Bool) (S : Setup) (A : State) (H : Hands) (l : Label) (w : Writer) → IsBare A → IsBare (room_if b S A H l w).0
room_if-bare true S A H l w bare = open_cached_if-bare _ S _ H l w bare
room_if-bare false S A H l w bare = bare

room_by-bare : (S : Setup) (A : State) (H : Hands) (l : Label) (o : Option Writer) → IsBare A → IsBare (room_by S A H l o).0
room_by-bare S A H l None bare = bare
room_by-bare S A H l (Some w) bare = room_if-bare _ S A H l w bare

finish_by-bare : (S : Setup) (A : State) (who : ℕ) (H : Hands) (l : Label) (o : Option Hand) → IsBare A → IsBare (finish_by S A who H l o).1
finish_by-bare S A who H l None bare = bare
finish_by-bare S A who H l (Some (Hand.Reading s)) bare = bare
finish_by-bare S A who H l (Some (Hand.Writing s)) bare = ap (spend 4) bare
finish_by-bare S A who H l (Some (Hand.Moving s)) bare = bare
finish_by-bare S A who H l (Some (Hand.Storing s)) bare = ap (spend 4) bare

next_among-bare : (S : Setup) (k : Choices) (A : State) (who : ℕ) (H : Hands) (l : Label) (s : Stream) (cs : List Candidate) → IsBare A → IsBare (next_among S k A who H l s cs).1
next_among-bare S k A who H l s [] bare = bare
next_among-bare S k A who H l s (c ∷ cs) bare = bare

next_within-bare : (S : Setup) (k : Choices) (A : State) (who : ℕ) (H : Hands) (l : Label) (s : Stream) (o : Option Source) → IsBare A → IsBare (next_within S k A who H l s o).1
next_within-bare S k A who H l s (Some src) bare = bare
next_within-bare S k A who H l s None bare = next_among-bare S k A who H l s _ bare

next_at_end-bare : (b : Bool) (S : Setup) (k : Choices) (A : State) (who : ℕ) (H : Hands) (l : Label) (s : Stream) → IsBare A → IsBare (next_at_end b S k A who H l s).1
next_at_end-bare true S k A who H l s bare = bare
next_at_end-bare false S k A who H l s bare = next_within-bare S k A who H l s _ bare

job_among-bare : (A : State) (who : ℕ) (H : Hands) (l : Label) (j : JobHand) (cs : List Candidate) → IsBare A → IsBare (job_among A who H l j cs).1
job_among-bare A who H l j [] bare = bare
job_among-bare A who H l j (c ∷ cs) bare = bare

job_within-bare : (S : Setup) (k : Choices) (A : State) (who : ℕ) (H : Hands) (l : Label) (j : JobHand) (o : Option Source) → IsBare A → IsBare (job_within S k A who H l j o).1
job_within-bare S k A who H l j (Some src) bare = bare
job_within-bare S k A who H l j None bare = job_among-bare A who H l j _ bare

job_at_end-bare : (b : Bool) (S : Setup) (k : Choices) (A : State) (who : ℕ) (H : Hands) (l : Label) (j : JobHand) → IsBare A → IsBare (job_at_end b S k A who H l j).1
job_at_end-bare true S k A who H l j bare = bare
job_at_end-bare false S k A who H l j bare = job_within-bare S k A who H l j _ bare

next_by-bare : (S : Setup) (k : Choices) (A : State) (who : ℕ) (H : Hands) (l : Label) (o : Option Hand) → IsBare A → IsBare (next_by S k A who H l o).1
next_by-bare S k A who H l None bare = bare
next_by-bare S k A who H l (Some (Hand.Reading s)) bare = next_at_end-bare _ S k A who H l s bare
next_by-bare S k A who H l (Some (Hand.Writing w)) bare = bare
next_by-bare S k A who H l (Some (Hand.Moving m)) bare = bare
next_by-bare S k A who H l (Some (Hand.Storing j)) bare = job_at_end-bare _ S k A who H l j bare

shift_by-bare : (S : Setup) (A : State) (who : ℕ) (H : Hands) (l : Label) (w t : ℕ) (o : Option Copied) → IsBare A → IsBare (shift_by S A who H l w t o).1
shift_by-bare S A who H l w t None bare = bare
shift_by-bare S A who H l w t (Some c) bare = bare

close_by-bare : (S : Setup) (k : Choices) (A : State) (who : ℕ) (l : Label) (o : Option Hand) → IsBare A → IsBare (close_by S k A who l o)
close_by-bare S k A who l None bare = bare
close_by-bare S k A who l (Some (Hand.Reading s)) bare = bare
close_by-bare S k A who l (Some (Hand.Writing w)) bare = bare
close_by-bare S k A who l (Some (Hand.Moving m)) bare = bare
close_by-bare S k A who l (Some (Hand.Storing j)) bare = bare

sweep_outcome-bare : (A : State) (w : ℕ) → IsBare A → IsBare (sweep_outcome A w).1
sweep_outcome-bare A w bare = grind (arith, bare)

pump_outcome-bare : (S : Setup) (A : State) (n : ℕ) → IsBare A → IsBare (pump_outcome S A n).1
pump_outcome-bare S A n bare =
    let spent : spend 4 A.master.fuse ≡ None = ap (spend 4) bare in
    grind (arith, bare, spent)

accepted-bare : (S : Setup) (k : Choices) (A : State) (H : Hands) (who : ℕ) (e : Event) → sets_fuse e ≡ false → IsBare A → IsBare (accepted S k A H who e).1
accepted-bare S k A H who (Event.Mkdir p) other bare = journaled-bare (mkdir_change A p) A.master bare
accepted-bare S k A H who (Event.Create l p kind w) other bare = journaled-bare (create_change A p) A.master bare
accepted-bare S k A H who (Event.Rename p q) other bare = journaled-bare (rename_change A p q) A.master bare
accepted-bare S k A H who (Event.Remove p deep) other bare = journaled-bare (remove_change A p) A.master bare
accepted-bare S k A H who (Event.Pin p on) other bare = ap (spend 4) bare
accepted-bare S k A H who (Event.Persist p) other bare = journaled-bare (persist_change A p) A.master bare
accepted-bare S k A H who (Event.Mount p s key) other bare = journaled-bare (mount_change A p s key) A.master bare
accepted-bare S k A H who (Event.Unmount p) other bare = ap (spend 4) bare
accepted-bare S k A H who (Event.Room l) other bare = room_by-bare S A H l (writer_at H l) bare
accepted-bare S k A H who (Event.Finish l) other bare = finish_by-bare S A who H l (unbroken_at H l) bare
accepted-bare S k A H who (Event.Next l) other bare = next_by-bare S k A who H l (unbroken_at H l) bare
accepted-bare S k A H who (Event.Close l) other bare = close_by-bare S k A who l (hand_at H l) bare
accepted-bare S k A H who (Event.Shift l w p i t) other bare = shift_by-bare S A who H l w t _ bare
accepted-bare S k A H who (Event.Register w) other bare = journaled-bare (seen_change A w) A.master bare
accepted-bare S k A H who Event.Tick other bare = journaled-bare (lost_change (due S A)) A.master bare
accepted-bare S k A H who (Event.Sweep w) other bare = sweep_outcome-bare A w bare
accepted-bare S k A H who (Event.Pump n) other bare = pump_outcome-bare S A n bare
accepted-bare S k A H who Event.Checkpoint other bare = ap (spend (checkpoint_calls A.names)) bare
accepted-bare S k A H who (Event.Fuse calls) other bare = absurd (true≢false other)
accepted-bare S k A H who Event.Restart other bare = refl
accepted-bare S k A H who e other bare = bare

-- ---- what a fault or want of memory leaves

writer_after_fault-fuse : (S : Setup) (x : Remains) (A : State) (H : Hands) (l : Label) (o : Option Writer) → (writer_after_fault S x A H l o).0.master ≡ A.master
writer_after_fault-fuse S x A H l None = refl
writer_after_fault-fuse S x A H l (Some w) = by w.block
  where
    by : (b : Option OpenBlock) → (block_lost_by S x A w b).master ≡ A.master
    by None = refl
    by (Some b) = refl

finish_after_fault-fuse : (S : Setup) (x : Remains) (A : State) (who : ℕ) (H : Hands) (l : Label) (o : Option Hand) → (finish_after_fault S x A who H l o).0.master ≡ A.master
finish_after_fault-fuse S x A who H l None = refl
finish_after_fault-fuse S x A who H l (Some (Hand.Reading s)) = refl
finish_after_fault-fuse S x A who H l (Some (Hand.Writing w)) = by w.block
  where
    by : (b : Option OpenBlock) → (block_lost_by S x A w b).master ≡ A.master
    by None = refl
    by (Some b) = refl
finish_after_fault-fuse S x A who H l (Some (Hand.Moving m)) = refl
finish_after_fault-fuse S x A who H l (Some (Hand.Storing j)) = refl

pump_after_fault-fuse : (x : Remains) (A : State) (o : Option PlanRow) → (pump_after_fault x A o).master ≡ A.master
pump_after_fault-fuse x A None = refl
pump_after_fault-fuse x A (Some r) = refl

after_fault-fuse : (S : Setup) (x : Remains) (A : State) (who : ℕ) (H : Hands) (e : Event) → (after_fault S x A who H e).0.master ≡ A.master
after_fault-fuse S x A who H (Event.Room l) = writer_after_fault-fuse S x A H l (writer_at H l)
after_fault-fuse S x A who H (Event.Finish l) = finish_after_fault-fuse S x A who H l (unbroken_at H l)
after_fault-fuse S x A who H (Event.Pump n) = pump_after_fault-fuse x A (plan_at A.names n)
after_fault-fuse S x A who H e = refl

-- the state is this one, which has no fuse
same_bare : {A B : State} → B ≡ A → IsBare A → IsBare B
same_bare same bare = ap (λ (X : State). X.master.fuse) same ∙ bare

ShortOf-bare : {S : Setup} {A : State} {who : ℕ} {H : Hands} {B : State} {G : Hands} {rise : Rise} {e : Event} → ShortOf S A who H B G rise e → IsBare A → IsBare B
ShortOf-bare (ShortOf.Unchanged e other same hands) bare = same_bare same bare
ShortOf-bare (ShortOf.RoomClosed l w accepts at full body hands) bare = same_bare body bare
ShortOf-bare (ShortOf.NextSettled l k s c accepts at seeks may sought body hands) bare = same_bare body bare
ShortOf-bare (ShortOf.Unrecovered body hands) bare = same_bare body refl

-- none is made
shrunk_none : (old new : Option ℕ) → IsTrue (fuse_shrinks old new) → old ≡ None → new ≡ None
shrunk_none None None shrinks bare = refl
shrunk_none None (Some n) shrinks bare = absurd (true≢false (sym shrinks))
shrunk_none (Some m) new shrinks bare = cc

-- ---- a step

module _ {S : Setup} {A B : State} {who : ℕ} {H G : Hands} {e : Event} {reply : Reply} {rise : Rise} {made : Option Change} where
  Step-bare : Step S A who H e reply B G rise made → sets_fuse e ≡ false → IsBare A → IsBare B
  Step-bare (Step.Refused answers body hands none) other bare = same_bare body bare
  Step-bare (Step.Accepted k accepts clear serves may is change) other bare = ap (λ (o : Outcome). o.1.master.fuse) is ∙ accepted-bare S k A H who e other bare
  Step-bare (Step.Failed x accepts may is none) other bare = ap (λ (o : BodyAndHands). o.0.master.fuse) is ∙ ap (λ (M : Master). M.fuse) (after_fault-fuse S x A who H e) ∙ bare
  Step-bare (Step.Stops x fuse accepts clear parks says doubts may shrinks body hands none) other bare = ap (λ (X : State). X.master.fuse) body ∙ shrunk_none A.master.fuse fuse shrinks bare
  Step-bare (Step.Unrecovered restarts says rises body hands none) other bare = same_bare body refl
  Step-bare (Step.Damaged area place restarts says body hands none) other bare = same_bare body refl
  Step-bare (Step.Waits k accepts says may body hands none) other bare = same_bare body bare
  Step-bare (Step.Short says short none) other bare = ShortOf-bare short bare

-- a step of the whole
pub WholeStep-bare : (U : Setup) (V M : Whole) (line : Line) (x : Observation) → WholeStep U V line M x → sets_fuse line.event ≡ false → IsBare V.body → IsBare M.body
WholeStep-bare U V M line x s other bare = ap (λ (X : Whole). X.body.master.fuse) s.after ∙ Step-bare s.step other bare
