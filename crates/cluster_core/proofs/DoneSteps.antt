-- The end of a writer by what the core's calls say, for each of its ends.
use Rattle.std.proofs.Common.{◌≡◌, inl, inr, ⊎_elim, ℕ, suc, pred, ◌<◌, true, List, cond, Option, Some, None, refl, sym, ap, ◌∙◌, subst}
use Rattle.std.specs.Prelude.{IsSome, IsSomeAnd, IfSome, slice_get, option_and_then}
use Rattle.fs_model.specs.declared.setup.Setup.{Setup}
use Rattle.fs_model.specs.declared.label.Label.{Label}
use Rattle.fs_model.specs.declared.event.Event.{Event}
use Rattle.fs_model.specs.declared.reply.Reply.{Reply}
use Rattle.fs_model.specs.declared.reply.Refusal.{Refusal}
use Rattle.fs_model.specs.Spelled.{is_actor}
use Rattle.fs_model.specs.State as machine
use Rattle.fs_model.specs.State.{Whole, NodeRow}
use Rattle.fs_model.specs.Lookups.{hand_at}
use Rattle.fs_model.specs.BytesEvents.{unbroken, bad_label, finish_refusal_of}
use Rattle.fs_model.specs.Machine.{refusal, hands_of}
use Rattle.inode_tree.specs.Rows.{file_row}
use Rattle.outside.specs.declared.disk.Disk as disks
use Rattle.outside.specs.declared.objects.Objects as objects
use Rattle.outside.specs.declared.objects.ObjectRead as reads
use Rattle.outside.specs.declared.objects.ObjectWrite as writes
use Rattle.file_writer.specs.Writing.{block_writer}
use Rattle.cluster_core.specs.LabelsView.{LabelsView, hand_in}
use Rattle.cluster_core.specs.Tiers.{ChangesAt}
use Rattle.cluster_core.specs.HandChanges.{AddsHand, EndsHand, KeepsHands, SetsHand}
use Rattle.cluster_core.specs.HandFits.{Fits, WriterFits}
use Rattle.cluster_core.specs.Kept.{KeepsRest}
use Rattle.outside.specs.Causes.{Rose}
use Rattle.fs_model.specs.Faults.{Rise}
use Rattle.journal_disk.specs.Journaling.{area_0, area_1}
use Rattle.master_state.specs.Effect.{counts_in}
use Rattle.master_node.specs.Mastering.{Mastering, entered, names_of, standing_of}
use Rattle.cluster_core.specs.Crashes.{done_entry}
use Rattle.cluster_core.specs.Entering.{Entered, HasStopped, Stays}
use Rattle.cluster_core.proofs.Sides.{same_sides}
use Rattle.cluster_core.specs.Stands.{Stands}
use Rattle.cluster_core.specs.Goes.{Goes, Rises, Steps}
use Rattle.cluster_core.specs.Writers.{Commits, Loses, StepsFrom, TookWriter, IsNoWriter, finish_test}
use Rattle.cluster_core.specs.Committed.{finished_of, key_at, closed_writer}
use Rattle.cluster_core.specs.declared.cluster.Core.{Core}
use Rattle.cluster_core.specs.declared.hand.Hand.{Hand}
use Rattle.cluster_core.specs.declared.hand.Writer.{Writer}
use Rattle.cluster_core.specs.declared.node.Node.{Node}
use Rattle.cluster_core.proofs.Standing.{goes_refused, stands_stays}
use Rattle.cluster_core.proofs.KeptHands.{kept_twice, stands_kept}
use Rattle.cluster_core.proofs.CloseGo.{by_actor}
use Rattle.cluster_core.proofs.Labelled.{absent_at, end_there, fits_at, sets_hand}
use Rattle.cluster_core.proofs.RoomSteps.{Continues, ends, with_writer}
use Rattle.cluster_core.proofs.DoneGo.{refusal_is, done_refused, done_short, done_goes, done_lost, done_stops}

-- the same core over another master
abbrev with_master : {D S R W : Type 0} {d : disks.Ghosts D} {w : writes.Ghosts W} → Core D S R W d w → Mastering D → Core D S R W d w
with_master C m = record C { master = m }

-- what a call said of the open block before it, said of a core that has the same
block_said : {S W : Type 0} (x : Writer W) (P : ℕ → W → List (Node S) → List NodeRow → ℕ → Type 0) (ns ms : List (Node S)) (rs qs : List NodeRow) (b c : ℕ) → ns ≡ ms → rs ≡ qs → b ≡ c
    → IfSome x.room (λ n. IfSome (block_writer x.bytes) (λ pen. P n pen ns rs b)) → (n : ℕ) (pen : W) → x.room ≡ Some n → block_writer x.bytes ≡ Some pen → P n pen ms qs c
block_said x P ns ms rs qs b c nodes rows size said n pen reserved writes_to =
    let here : P n pen ns rs b = subst (λ e. IfSome e (λ p. P n p ns rs b)) writes_to (subst (λ e. IfSome e (λ k. IfSome (block_writer x.bytes) (λ p. P k p ns rs b))) reserved said) in
    subst (P n pen ms qs) size (subst (λ z. P n pen ms z b) rows (subst (λ z. P n pen z rs b) nodes here))

some_room : (e : Option ℕ) → (e ≡ None → ⊥) → (n : ℕ) × (e ≡ Some n)
some_room None is = absurd (is refl)
some_room (Some n) is = (n, refl)

-- ---- the writer is put back

module _ {D S R W : Type 0} {d : disks.Ghosts D} (o : objects.Ghosts S R W) (r : reads.Ghosts R) (w : writes.Ghosts W) (now new : Core D S R W d w) (l : Label) (who : ℕ) (actor : is_actor who ≡ true) (x y : Writer W) (rest : KeepsRest now new) (put : ChangesAt now.hands.items new.hands.items (pred who) (AddsHand l (Hand.Writing y))) (workers : new.workers ≡ now.workers) (same : y ≡ x) where
  pub ends_refused : (why : Refusal) → Some (Reply.Refused why) ≡ finish_test now.master now.workers.items x → StepsFrom d o r w now new who l x (Event.Finish l) (Reply.Refused why)
  unfolding Continues
  ends_refused why h = ends o r w now new l who actor x y rest put (Event.Finish l) (Reply.Refused why) (λ was i within all nodes names block area whole sets U V s.
      let mine = subst (λ z. ChangesAt was.hands.items new.hands.items i (SetsHand l (Hand.Writing x) (Hand.Writing z))) same sets in
      with_writer o r w was new l i within x x mine U V s (Goes d o r w U was new V (suc i) (Event.Finish l) (Reply.Refused why)) (λ m at f.
      done_refused o r w was l i within x whole U V s m at f new all (workers ∙ nodes) mine why (refusal_is o r w was l i within x whole U V s m at f ∙ sym (h ∙ (λ j. finish_test (names j) ((nodes j).items) x)))))

  pub ends_short : StepsFrom d o r w now new who l x (Event.Finish l) (Reply.Refused Refusal.Memory)
  unfolding Continues
  ends_short = ends o r w now new l who actor x y rest put (Event.Finish l) (Reply.Refused Refusal.Memory) (λ was i within all nodes names block area whole sets U V s.
      let mine = subst (λ z. ChangesAt was.hands.items new.hands.items i (SetsHand l (Hand.Writing x) (Hand.Writing z))) same sets in
      with_writer o r w was new l i within x x mine U V s (Goes d o r w U was new V (suc i) (Event.Finish l) (Reply.Refused Refusal.Memory)) (λ m at f. done_short o r w was l i within x whole U V s m at f new all (workers ∙ nodes) mine))

-- ---- behind the commit

module _ {D S R W : Type 0} {d : disks.Ghosts D} (o : objects.Ghosts S R W) (r : reads.Ghosts R) (w : writes.Ghosts W) (now mid new : Core D S R W d w) (l : Label) (who : ℕ) (actor : is_actor who ≡ true) (x : Writer W) (rest : KeepsRest now mid) (hands : mid.hands ≡ now.hands) where
  module _ (y : Writer W) (after : KeepsRest mid new) (workers : new.workers ≡ mid.workers) (put : ChangesAt mid.hands.items new.hands.items (pred who) (AddsHand l (Hand.Writing y))) where
    puts : ChangesAt now.hands.items new.hands.items (pred who) (AddsHand l (Hand.Writing y))
    puts = subst (λ z. ChangesAt z.items new.hands.items (pred who) (AddsHand l (Hand.Writing y))) hands put

    pub after_short : mid.workers ≡ now.workers → y ≡ x → StepsFrom d o r w now new who l x (Event.Finish l) (Reply.Refused Refusal.Memory)
    after_short kept same = ends_short o r w now new l who actor x y (kept_twice now mid new rest after) puts (workers ∙ kept) same

    pub after_lost : finish_test now.master now.workers.items x ≡ None → (x.room ≡ None → ⊥) → IfSome x.room (λ n. IfSome (block_writer x.bytes) (λ pen. ChangesAt now.workers.items mid.workers.items (pred x.worker) (Loses o w n (key_at now.workers.items x.worker n) pen (finished_of now.master.kept.names.nodes now.block x)))) → y ≡ closed_writer true x → StepsFrom d o r w now new who l x (Event.Finish l) (Reply.Refused (Refusal.TierFault x.worker))
    unfolding Continues
    after_lost h some lost same = ends o r w now new l who actor x y (kept_twice now mid new rest after) puts (Event.Finish l) (Reply.Refused (Refusal.TierFault x.worker)) (λ was i within all nodes names block area whole sets U V s.
        let mine = subst (λ z. ChangesAt was.hands.items new.hands.items i (SetsHand l (Hand.Writing x) (Hand.Writing z))) same sets in
        let room = some_room x.room some in
        with_writer o r w was new l i within x (closed_writer true x) mine U V s (Goes d o r w U was new V (suc i) (Event.Finish l) (Reply.Refused (Refusal.TierFault x.worker))) (λ m at f.
        done_lost o r w was l i within x whole U V s m at f new (sym (λ j. finish_test (names j) ((nodes j).items) x) ∙ h) room.0 room.1
        (λ pen takes. subst (λ v. ChangesAt was.workers.items v.items (pred x.worker) (Loses o w room.0 (key_at was.workers.items x.worker room.0) pen (finished_of was.master.kept.names.nodes was.block x))) (sym workers) (block_said x (λ n p ns rows bs. ChangesAt ns mid.workers.items (pred x.worker) (Loses o w n (key_at ns x.worker n) p (finished_of rows bs x))) now.workers.items was.workers.items now.master.kept.names.nodes was.master.kept.names.nodes now.block was.block (ap (λ k. k.items) nodes) (ap (λ k. k.kept.names.nodes) names) block lost room.0 pen room.1 takes)) all mine))

  -- the block was committed, and the journal was called
  module _ (sized : new.block ≡ mid.block) (workers : new.workers ≡ mid.workers) (h : finish_test now.master now.workers.items x ≡ None)
      (done : IfSome x.room (λ n. IfSome (block_writer x.bytes) (λ pen. ChangesAt now.workers.items mid.workers.items (pred x.worker) (Commits o w n (key_at now.workers.items x.worker n) pen (finished_of now.master.kept.names.nodes now.block x))))) (kept : x.room ≡ None → mid.workers ≡ now.workers) where
    -- what is said of the end, from a core with the writer under its label
    abbrev Ends : Core D S R W d w → Setup → Whole → ℕ → Reply → Type 0
    Ends was U V who reply = Goes d o r w U was new V who (Event.Finish l) reply

    -- whatever the machine has under the label, it is a writer
    by_kind : (was : Core D S R W d w) (i : ℕ) (U : Setup) (V : Whole) (s : Stands d o r w U was V) (Q : Type 0) → ((m : machine.Writer) → hand_at (hands_of V (suc i)) l ≡ Some (machine.Hand.Writing m) → WriterFits w s.known was.workers.items was.master.kept.names.next_id was.block (suc i, l) m x → Q)
        → (k : machine.Hand) → hand_at (hands_of V (suc i)) l ≡ Some k → Fits r w s.known was.workers.items was.master.kept.names.next_id was.block (suc i, l) k (Hand.Writing x) → Q
    by_kind was i U V s Q go (machine.Hand.Reading k) at fits = absurd fits
    by_kind was i U V s Q go (machine.Hand.Writing k) at fits = go k at fits
    by_kind was i U V s Q go (machine.Hand.Moving k) at fits = absurd fits
    by_kind was i U V s Q go (machine.Hand.Storing k) at fits = absurd fits

    module _ (was : Core D S R W d w) (took : TookWriter was now who l x) where
      passes : finish_test was.master was.workers.items x ≡ None
      passes = sym (λ j. finish_test (took.rest.master j) ((took.workers j).items) x) ∙ h

      before : mid.master ≡ was.master
      before = rest.master ∙ took.rest.master

      commits : (n : ℕ) (pen : W) → x.room ≡ Some n → block_writer x.bytes ≡ Some pen → ChangesAt was.workers.items new.workers.items (pred x.worker) (Commits o w n (key_at was.workers.items x.worker n) pen (finished_of was.master.kept.names.nodes was.block x))
      commits n pen reserved takes = subst (λ v. ChangesAt was.workers.items v.items (pred x.worker) (Commits o w n (key_at was.workers.items x.worker n) pen (finished_of was.master.kept.names.nodes was.block x))) (sym workers) (block_said x (λ k p ns rows bs. ChangesAt ns mid.workers.items (pred x.worker) (Commits o w k (key_at ns x.worker k) p (finished_of rows bs x))) now.workers.items was.workers.items now.master.kept.names.nodes was.master.kept.names.nodes now.block was.block (ap (λ k. k.items) took.workers) (ap (λ k. k.kept.names.nodes) took.rest.master) took.rest.block done n pen reserved takes)

      stays : x.room ≡ None → new.workers.items ≡ was.workers.items
      stays none = ap (λ k. k.items) (workers ∙ kept none ∙ took.workers)

      block : new.block ≡ was.block
      block = sized ∙ rest.block ∙ took.rest.block

    -- the file is done, and the label ended
    pub after_done : (held : new.hands ≡ mid.hands) → Entered d (done_entry x) mid.master new.master → counts_in (done_entry x) (names_of mid.master) ≡ true → StepsFrom d o r w now new who l x (Event.Finish l) Reply.Done
    after_done held entered counts was took U V s =
        by_actor (λ a. ChangesAt was.hands.items new.hands.items (pred a) (EndsHand l (Hand.Writing x)) → Ends was U V a Reply.Done)
        (λ i within ended.
        let found = fits_at r w s.known was.workers.items was.master.kept.names.next_id was.block V.hands was.hands.items s.hands i within l (Hand.Writing x) (end_there i l (Hand.Writing x) was.hands.items new.hands.items ended) in
        by_kind was i U V s (Ends was U V (suc i) Reply.Done) (λ m at f.
        done_goes o r w was l i within x took.unbroken U V s m at f new (passes was took) (commits was took) (stays was took) (block was took) (subst (λ k. counts_in (done_entry x) (names_of k) ≡ true) (before was took) counts) (subst (λ k. Entered d (done_entry x) k new.master) (before was took) entered) ended)
        found.0 found.1 found.2)
        who actor (subst (λ z. ChangesAt was.hands.items z.items (pred who) (EndsHand l (Hand.Writing x))) (sym (held ∙ hands)) took.hands)

    -- the journal failed, and the writer was put back broken
    pub after_stops : counts_in (done_entry x) (names_of mid.master) ≡ true → (y : Writer W) → y ≡ closed_writer true x → ChangesAt mid.hands.items new.hands.items (pred who) (AddsHand l (Hand.Writing y)) → HasStopped d 4 (entered (done_entry x) (standing_of mid.master)) mid.master new.master → StepsFrom d o r w now new who l x (Event.Finish l) (Reply.Refused Refusal.JournalFault)
    after_stops counts y broken put stopped was took U V s =
        by_actor (λ a. ChangesAt was.hands.items new.hands.items (pred a) (SetsHand l (Hand.Writing x) (Hand.Writing y)) → Ends was U V a (Reply.Refused Refusal.JournalFault))
        (λ i within sets.
        let mine = subst (λ z. ChangesAt was.hands.items new.hands.items i (SetsHand l (Hand.Writing x) (Hand.Writing z))) broken sets in
        with_writer o r w was new l i within x (closed_writer true x) mine U V s (Ends was U V (suc i) (Reply.Refused Refusal.JournalFault)) (λ m at f.
        done_stops o r w was l i within x took.unbroken U V s m at f new (passes was took) (commits was took) (stays was took) (block was took) (subst (λ k. counts_in (done_entry x) (names_of k) ≡ true) (before was took) counts) (subst (λ k. HasStopped d 4 (entered (done_entry x) (standing_of k)) k new.master) (before was took) stopped) mine))
        who actor (sets_hand (pred who) l l (Hand.Writing x) (Hand.Writing y) was.hands.items now.hands.items new.hands.items refl took.hands (subst (λ z. ChangesAt z.items new.hands.items (pred who) (AddsHand l (Hand.Writing y))) hands put))

-- ---- from before the entry was made ready

module _ {D S R W : Type 0} {d : disks.Ghosts D} (o : objects.Ghosts S R W) (r : reads.Ghosts R) (w : writes.Ghosts W) (now ready new : Core D S R W d w) (l : Label) (who : ℕ) (x : Writer W) (stays : Stays d now.master ready.master) (block : ready.block ≡ now.block) (workers : ready.workers ≡ now.workers) (hands : ready.hands ≡ now.hands) (stores : ready.stores ≡ now.stores) where
  -- what rose since then rose since before
  rose_before : (was : Core D S R W d w) → now.master ≡ was.master → (e : Event) (rise : Rise) → Rises d o r w (with_master was ready.master) new who e rise → Rises d o r w was new who e rise
  rose_before was same e rise Rises.Nothing = Rises.Nothing
  rose_before was same e rise (Rises.OfTier v t h) = Rises.OfTier v t h
  rose_before was same e rise (Rises.OfHand v k u h) = Rises.OfHand v k u h
  rose_before was same e rise (Rises.OfWaits v k u h) = Rises.OfWaits v k u h
  rose_before was same e rise (Rises.OfJournal h) =
      let own = same_sides d stays.journal d.faults stays.journal.own_here stays.journal.own_there in
      let first : d.faults (area_0 ready.master.journal) ≡ d.faults (area_0 was.master.journal) = own.0 ∙ ap (λ m. d.faults (area_0 m.journal)) same in
      let second : d.faults (area_1 ready.master.journal) ≡ d.faults (area_1 was.master.journal) = own.1 ∙ ap (λ m. d.faults (area_1 m.journal)) same in
      Rises.OfJournal (⊎_elim (λ a. inl (subst (λ n. Rose n (d.faults (area_0 new.master.journal))) first a)) (λ b. inr (subst (λ n. Rose n (d.faults (area_1 new.master.journal))) second b)) h)

  -- the rest of the event is a step from before too
  pub from_ready : (reply : Reply) → StepsFrom d o r w ready new who l x (Event.Finish l) reply → StepsFrom d o r w now new who l x (Event.Finish l) reply
  from_ready reply steps was took U V s =
      let old = with_master was ready.master in
      let still : Stays d was.master ready.master = subst (λ m. Stays d m ready.master) took.rest.master stays in
      let taken : TookWriter old ready who l x = record {
        rest = record { block = block ∙ took.rest.block; master = refl; stores = stores ∙ took.rest.stores };
        workers = workers ∙ took.workers;
        hands = subst (λ z. ChangesAt was.hands.items z.items (pred who) (EndsHand l (Hand.Writing x))) (sym hands) took.hands;
        unbroken = took.unbroken;
      } in
      let goes = steps old taken U V (stands_stays o r w U was old V s refl refl refl still) in
      record { after = goes.after; rise = goes.rise; made = goes.made; stands = goes.stands; rises = rose_before was took.rest.master (Event.Finish l) goes.rise goes.rises; step = goes.step }

-- ---- no unbroken writer is there

module _ {D S R W : Type 0} {d : disks.Ghosts D} (o : objects.Ghosts S R W) (r : reads.Ghosts R) (w : writes.Ghosts W) (was new : Core D S R W d w) (l : Label) where
  -- the machine refuses it too
  is_bad : (i : ℕ) → i < 64 → (U : Setup) (V : Whole) (s : Stands d o r w U was V) → (q : Option (Hand R W)) → IsSomeAnd (slice_get was.hands.items i) (λ k. hand_in k l ≡ q) → IsNoWriter q → refusal U V.body (hands_of V (suc i)) (Event.Finish l) ≡ bad_label
  is_bad i within U V s None at none = ap (λ h. elim (option_and_then unbroken h) as (λ t. Option Reply) [ None ↦ bad_label | Some k ↦ finish_refusal_of U V.body k ]) (absent_at r w s.known was.workers.items was.master.kept.names.next_id was.block V.hands was.hands.items s.hands i within l at)
  is_bad i within U V s (Some (Hand.Reading x)) at none =
      let found = fits_at r w s.known was.workers.items was.master.kept.names.next_id was.block V.hands was.hands.items s.hands i within l (Hand.Reading x) at in
      stream found.0 found.1 found.2
    where
      stream : (k : machine.Hand) → hand_at (hands_of V (suc i)) l ≡ Some k → Fits r w s.known was.workers.items was.master.kept.names.next_id was.block (suc i, l) k (Hand.Reading x) → refusal U V.body (hands_of V (suc i)) (Event.Finish l) ≡ bad_label
      stream (machine.Hand.Reading k) is fits = ap (λ h. elim (option_and_then unbroken h) as (λ t. Option Reply) [ None ↦ bad_label | Some q ↦ finish_refusal_of U V.body q ]) is
      stream (machine.Hand.Writing k) is fits = absurd fits
      stream (machine.Hand.Moving k) is fits = absurd fits
      stream (machine.Hand.Storing k) is fits = absurd fits
  is_bad i within U V s (Some (Hand.Writing x)) at none =
      let found = fits_at r w s.known was.workers.items was.master.kept.names.next_id was.block V.hands was.hands.items s.hands i within l (Hand.Writing x) at in
      writer found.0 found.1 found.2
    where
      writer : (k : machine.Hand) → hand_at (hands_of V (suc i)) l ≡ Some k → Fits r w s.known was.workers.items was.master.kept.names.next_id was.block (suc i, l) k (Hand.Writing x) → refusal U V.body (hands_of V (suc i)) (Event.Finish l) ≡ bad_label
      writer (machine.Hand.Reading k) is fits = absurd fits
      writer (machine.Hand.Writing k) is fits = ap (λ h. elim (option_and_then unbroken h) as (λ t. Option Reply) [ None ↦ bad_label | Some q ↦ finish_refusal_of U V.body q ]) is ∙ ap (λ b. elim (cond b None (Some (machine.Hand.Writing k))) as (λ t. Option Reply) [ None ↦ bad_label | Some q ↦ finish_refusal_of U V.body q ]) (fits.broken ∙ none)
      writer (machine.Hand.Moving k) is fits = absurd fits
      writer (machine.Hand.Storing k) is fits = absurd fits

  looked_up : (y : Option (LabelsView (Hand R W))) → IsSomeAnd y (λ k. IsNoWriter (hand_in k l)) → (q : Option (Hand R W)) × IsSomeAnd y (λ k. hand_in k l ≡ q) × IsNoWriter q
  looked_up None h = absurd h
  looked_up (Some k) h = (hand_in k l, refl, h)

  pub done_bad : (who : ℕ) → is_actor who ≡ true → KeepsRest was new → new.workers ≡ was.workers → ChangesAt was.hands.items new.hands.items (pred who) KeepsHands → IsSomeAnd (slice_get was.hands.items (pred who)) (λ k. IsNoWriter (hand_in k l)) → Steps d o r w was new who (Event.Finish l) (Reply.Refused Refusal.BadLabel)
  done_bad who actor rest workers kept none U V s = by_actor (λ a. ChangesAt was.hands.items new.hands.items (pred a) KeepsHands → IsSomeAnd (slice_get was.hands.items (pred a)) (λ k. IsNoWriter (hand_in k l)) → Goes d o r w U was new V a (Event.Finish l) (Reply.Refused Refusal.BadLabel)) (λ i within keeps gone.
      let q = looked_up (slice_get was.hands.items i) gone in
      goes_refused o r w U was new V (suc i) (Event.Finish l) (Reply.Refused Refusal.BadLabel) (stands_kept o r w U V was new i within rest workers keeps s) (is_bad i within U V s q.0 q.1 q.2) refl refl) who actor kept none
