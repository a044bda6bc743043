-- Room for a writer as a step of the file machine.
use Rattle.std.proofs.Common.{◌≡◌, ℕ, suc, ◌<◌, Bool, true, false, not, cond, [], ◌∷◌, Option, Some, None, is_none, refl, sym, ap, ◌∙◌}
use Rattle.std.specs.Prelude.{IsSome, option_and_then}
use Rattle.fs_model.specs.declared.setup.Setup.{Setup}
use Rattle.fs_model.specs.declared.label.Label.{Label}
use Rattle.fs_model.specs.declared.event.Event.{Event}
use Rattle.fs_model.specs.declared.reply.Reply.{Reply}
use Rattle.fs_model.specs.declared.reply.Refusal.{Refusal}
use Rattle.fs_model.specs.Words.{first}
use Rattle.fs_model.specs.State as machine
use Rattle.fs_model.specs.State.{State, Whole, Hands, Worker, OpenBlock}
use Rattle.fs_model.specs.Lookups.{hand_at}
use Rattle.fs_model.specs.Tests.{refuse}
use Rattle.fs_model.specs.BytesEvents.{writer_at, unbroken_writer, room_refusal_of, bad_label, block_wanted}
use Rattle.fs_model.specs.BytesOutcomes.{Outcome, room_by, room_if, with_reply}
use Rattle.fs_model.specs.Choices.{fault_free}
use Rattle.fs_model.specs.Journaling.{fuse_serves}
use Rattle.fs_model.specs.Machine.{refusal, accepted, hands_of}
use Rattle.fs_model.specs.Step.{Step}
use Rattle.outside.specs.declared.disk.Disk as disks
use Rattle.outside.specs.declared.objects.Objects as objects
use Rattle.outside.specs.declared.objects.ObjectRead as reads
use Rattle.outside.specs.declared.objects.ObjectWrite as writes
use Rattle.file_writer.specs.Writing.{wants_room}
use Rattle.cluster_core.proofs.Named.{serves_none}
use Rattle.cluster_core.specs.Tiers.{ChangesAt}
use Rattle.cluster_core.specs.HandChanges.{SetsHand}
use Rattle.cluster_core.specs.HandFits.{WriterFits}
use Rattle.cluster_core.specs.Kept.{KeepsRest}
use Rattle.cluster_core.specs.Stands.{Stands}
use Rattle.cluster_core.specs.Goes.{Goes, Rises, no_rise}
use Rattle.cluster_core.specs.Writers.{room_test}
use Rattle.cluster_core.specs.declared.cluster.Core.{Core}
use Rattle.cluster_core.specs.declared.hand.Hand.{Hand}
use Rattle.cluster_core.specs.declared.hand.Writer.{Writer}
use Rattle.cluster_core.proofs.Standing.{put_same, goes_refused, goes_short}
use Rattle.cluster_core.proofs.KeptHands.{stands_kept}
use Rattle.cluster_core.proofs.RoomTests.{room_tests_are, wanted_is}
use Rattle.cluster_core.proofs.PutGo.{keeps_same}

-- ---- tests that pass

-- what no test of five refuses passes each
pub five_pass : {X : Type 0} (a b c d e : Option X) → first (a ∷ b ∷ c ∷ d ∷ e ∷ []) ≡ None → (a ≡ None) × (b ≡ None) × (c ≡ None) × (d ≡ None) × (e ≡ None)
five_pass None None None None None h = (refl, refl, refl, refl, refl)
five_pass None None None None (Some x) h = absurd (cc)
five_pass None None None (Some x) e h = absurd (cc)
five_pass None None (Some x) d e h = absurd (cc)
five_pass None (Some x) c d e h = absurd (cc)
five_pass (Some x) b c d e h = absurd (cc)

pub not_refused : (r : Refusal) (b : Bool) → refuse r b ≡ None → b ≡ false
not_refused r true h = absurd (cc)
not_refused r false h = refl

pub is_true : (b : Bool) → not b ≡ false → b ≡ true
is_true true h = refl
is_true false h = absurd (cc)

pub there_some : {X : Type 0} (y : Option X) → is_none y ≡ false → IsSome y
there_some None h = absurd (cc)
there_some (Some x) h = refl

module _ {D S R W : Type 0} {d : disks.Ghosts D} (o : objects.Ghosts S R W) (r : reads.Ghosts R) (w : writes.Ghosts W) (was : Core D S R W d w) (l : Label) (i : ℕ) (within : i < 64) (x : Writer W) (whole : x.broken ≡ false) (U : Setup) (V : Whole) (s : Stands d o r w U was V) (m : machine.Writer) (at : hand_at (hands_of V (suc i)) l ≡ Some (machine.Hand.Writing m)) (f : WriterFits w s.known was.workers.items was.master.kept.names.next_id was.block (suc i, l) m x) where
  -- the label's writer on the machine's side
  pub writer_is : writer_at (hands_of V (suc i)) l ≡ Some m
  writer_is = ap (option_and_then unbroken_writer) at ∙ ap (λ b. cond b None (Some m)) (f.broken ∙ whole)

  pub refusal_is : refusal U V.body (hands_of V (suc i)) (Event.Room l) ≡ room_test was.master was.workers.items was.block x
  refusal_is =
      ap (λ (y : Option machine.Writer). elim y as (λ t. Option Reply) [ None ↦ bad_label | Some k ↦ room_refusal_of U V.body k ]) writer_is
      ∙ room_tests_are o w U V.body was.master was.workers.items was.block was.master.journal.limit was.master.kept.names.next_id s.known (suc i, l) s.names s.workers s.setup s.objects was.small m x f whole

  -- ---- nothing happens

  module _ (new : Core D S R W d w) (rest : KeepsRest was new) (workers : new.workers ≡ was.workers) (hands : ChangesAt was.hands.items new.hands.items i (SetsHand l (Hand.Writing x) (Hand.Writing x))) where
    still : Stands d o r w U new V
    still = stands_kept o r w U V was new i within rest workers (keeps_same i l (Hand.Writing x) (Hand.Writing x) was.hands.items new.hands.items refl hands) s

    pub room_refused : (why : Refusal) → Some (Reply.Refused why) ≡ room_test was.master was.workers.items was.block x → Goes d o r w U was new V (suc i) (Event.Room l) (Reply.Refused why)
    room_refused why h = goes_refused o r w U was new V (suc i) (Event.Room l) (Reply.Refused why) still (refusal_is ∙ sym h) refl refl

    pub room_short : Goes d o r w U was new V (suc i) (Event.Room l) (Reply.Refused Refusal.Memory)
    room_short = goes_short o r w U was new V (suc i) (Event.Room l) still refl

    pub room_same : room_test was.master was.workers.items was.block x ≡ None → wants_room x.bytes ≡ false → Goes d o r w U was new V (suc i) (Event.Room l) Reply.Done
    room_same passes wanted =
        let H = hands_of V (suc i) in
        let wants : block_wanted m.bs m.block ≡ false = wanted_is o w U V.body was.master was.workers.items was.block was.master.journal.limit was.master.kept.names.next_id s.known (suc i, l) s.names s.workers s.setup s.objects was.small m x f whole ∙ wanted in
        let done : ◌≡◌ {A = Outcome} (Reply.Done, V.body, H) (accepted U (fault_free 0) V.body H (suc i) (Event.Room l)) =
        sym (ap (λ y. with_reply Reply.Done (room_by U V.body H l y)) writer_is ∙ ap (λ b. with_reply Reply.Done (room_if b U V.body H l m)) wants) in
        record {
          after = V;
          rise = no_rise;
          made = None;
          stands = still;
          rises = Rises.Nothing;
          step = record {
            body = V.body;
            hands = H;
            step = Step.Accepted (fault_free 0) (refusal_is ∙ passes) refl (serves_none V.body.master.fuse) refl done refl;
            after = sym (put_same V (suc i));
          };
        }
