-- Room by what the core's calls say, for each of its ends.
use Rattle.std.proofs.Common.{◌≡◌, ℕ, suc, pred, ◌<◌, true, false, List, cond, Option, Some, None, refl, sym, ap, ◌∙◌, subst, inl, inr}
use Rattle.std.specs.Prelude.{IsSomeAnd, IfSome, slice_get, option_and_then, ◌⊎◌}
use Rattle.fs_model.specs.declared.setup.Setup.{Setup}
use Rattle.fs_model.specs.declared.label.Label.{Label}
use Rattle.fs_model.specs.declared.event.Event.{Event}
use Rattle.fs_model.specs.declared.reply.Reply.{Reply}
use Rattle.fs_model.specs.declared.reply.Refusal.{Refusal}
use Rattle.fs_model.specs.Spelled.{is_actor}
use Rattle.fs_model.specs.State as machine
use Rattle.fs_model.specs.State.{Whole}
use Rattle.fs_model.specs.Lookups.{hand_at}
use Rattle.fs_model.specs.BytesEvents.{writer_at, unbroken_writer, bad_label, room_refusal_of}
use Rattle.fs_model.specs.Machine.{refusal, hands_of}
use Rattle.outside.specs.declared.disk.Disk as disks
use Rattle.outside.specs.declared.objects.Objects as objects
use Rattle.outside.specs.declared.objects.ObjectRead as reads
use Rattle.outside.specs.declared.objects.ObjectWrite as writes
use Rattle.file_writer.specs.Writing.{block_writer, wants_room}
use Rattle.file_writer.specs.Taken.{HasTaken}
use Rattle.cluster_core.specs.LabelsView.{LabelsView, hand_in}
use Rattle.cluster_core.specs.Tiers.{ChangesAt}
use Rattle.cluster_core.specs.HandChanges.{AddsHand, SetsHand, KeepsHands}
use Rattle.cluster_core.specs.HandFits.{Fits, WriterFits}
use Rattle.cluster_core.specs.Kept.{KeepsRest}
use Rattle.cluster_core.specs.Stands.{Stands}
use Rattle.cluster_core.specs.Goes.{Goes, Steps}
use Rattle.cluster_core.specs.Writers.{Commits, Loses, StepsFrom, IsNoWriter, room_test}
use Rattle.cluster_core.specs.Committed.{finished_of, key_at, closed_writer, closed_bytes}
use Rattle.cluster_core.specs.Opened.{Spaces, IsFull, FailsNode, KeepsNode, OpensBlock, SameBytes, TellsAt}
use Rattle.cluster_core.specs.declared.cluster.Core.{Core}
use Rattle.cluster_core.specs.declared.hand.Hand.{Hand}
use Rattle.cluster_core.specs.declared.hand.Writer.{Writer}
use Rattle.cluster_core.specs.declared.node.Node.{Node}
use Rattle.cluster_core.proofs.Standing.{goes_refused}
use Rattle.cluster_core.proofs.KeptHands.{kept_twice, stands_kept}
use Rattle.cluster_core.proofs.CloseGo.{by_actor}
use Rattle.cluster_core.proofs.Labelled.{absent_at, sets_hand, set_there, fits_at}
use Rattle.cluster_core.proofs.NodeChanges.{changes_by, both_there}
use Rattle.cluster_core.proofs.Faulty.{RoseAt}
use Rattle.cluster_core.proofs.RoomGo.{room_refused, room_short, room_same}
use Rattle.cluster_core.proofs.RoomEnds.{room_closed, room_failed, committed}
use Rattle.cluster_core.proofs.RoomLast.{not_full, rose_since, parts_kept, room_opened, room_lost}
use Rattle.cluster_core.proofs.OpenedBlock.{same_writer}
use Rattle.cluster_core.proofs.ClosedBlock.{AfterCommit, closed_alone}
use Rattle.cluster_core.proofs.CommitParts.{without_owner}
use Rattle.tier_book.specs.Rows.{fitting}
use Rattle.outside.specs.Causes.{Rose}

-- the label's hand fits an unbroken writer of the machine
module _ {D S R W : Type 0} {d : disks.Ghosts D} (o : objects.Ghosts S R W) (r : reads.Ghosts R) (w : writes.Ghosts W) (was new : Core D S R W d w) (l : Label) (i : ℕ) (within : i < 64) (x y : Writer W) (sets : ChangesAt was.hands.items new.hands.items i (SetsHand l (Hand.Writing x) (Hand.Writing y))) (U : Setup) (V : Whole) (s : Stands d o r w U was V) where
  by_kind : (Q : Type 0) → ((m : machine.Writer) → hand_at (hands_of V (suc i)) l ≡ Some (machine.Hand.Writing m) → WriterFits w s.known was.workers.items was.master.kept.names.next_id was.block (suc i, l) m x → Q)
      → (k : machine.Hand) → hand_at (hands_of V (suc i)) l ≡ Some k → Fits r w s.known was.workers.items was.master.kept.names.next_id was.block (suc i, l) k (Hand.Writing x) → Q
  by_kind Q go (machine.Hand.Reading k) at fits = absurd fits
  by_kind Q go (machine.Hand.Writing k) at fits = go k at fits
  by_kind Q go (machine.Hand.Moving k) at fits = absurd fits
  by_kind Q go (machine.Hand.Storing k) at fits = absurd fits

  pub with_writer : (Q : Type 0) → ((m : machine.Writer) → hand_at (hands_of V (suc i)) l ≡ Some (machine.Hand.Writing m) → WriterFits w s.known was.workers.items was.master.kept.names.next_id was.block (suc i, l) m x → Q) → Q
  with_writer Q go =
      let found = fits_at r w s.known was.workers.items was.master.kept.names.next_id was.block V.hands was.hands.items s.hands i within l (Hand.Writing x) (set_there i l (Hand.Writing x) (Hand.Writing y) was.hands.items new.hands.items sets) in
      by_kind Q go found.0 found.1 found.2

module _ {D S R W : Type 0} {d : disks.Ghosts D} (o : objects.Ghosts S R W) (r : reads.Ghosts R) (w : writes.Ghosts W) (now new : Core D S R W d w) (l : Label) (who : ℕ) (actor : is_actor who ≡ true) (x y : Writer W) (rest : KeepsRest now new) (put : ChangesAt now.hands.items new.hands.items (pred who) (AddsHand l (Hand.Writing y))) where
  -- what every end begins with
  unfoldable pub Continues : Event → Reply → Type 0
  Continues e reply = (was : Core D S R W d w) (i : ℕ) → i < 64 → KeepsRest was new → now.workers ≡ was.workers → now.master ≡ was.master → now.block ≡ was.block → now.master.journal.limit ≡ was.master.journal.limit → x.broken ≡ false → ChangesAt was.hands.items new.hands.items i (SetsHand l (Hand.Writing x) (Hand.Writing y)) → (U : Setup) (V : Whole) → Stands d o r w U was V → Goes d o r w U was new V (suc i) e reply

  pub ends : (e : Event) (reply : Reply) → Continues e reply → StepsFrom d o r w now new who l x e reply
  unfolding Continues
  ends e reply go was took U V s =
      by_actor (λ a. ChangesAt was.hands.items new.hands.items (pred a) (SetsHand l (Hand.Writing x) (Hand.Writing y)) → Goes d o r w U was new V a e reply)
      (λ i within sets. go was i within (kept_twice was now new took.rest rest) took.workers took.rest.master took.rest.block (ap (λ k. k.journal.limit) took.rest.master) took.unbroken sets U V s)
      who actor (sets_hand (pred who) l l (Hand.Writing x) (Hand.Writing y) was.hands.items now.hands.items new.hands.items refl took.hands put)

  -- ---- nothing happened

  pub ends_refused : (why : Refusal) → Some (Reply.Refused why) ≡ room_test now.master now.workers.items now.block x → new.workers ≡ now.workers → y ≡ x → StepsFrom d o r w now new who l x (Event.Room l) (Reply.Refused why)
  unfolding Continues
  ends_refused why h workers same = ends (Event.Room l) (Reply.Refused why) (λ was i within all nodes names block area whole sets U V s.
      let mine = subst (λ z. ChangesAt was.hands.items new.hands.items i (SetsHand l (Hand.Writing x) (Hand.Writing z))) same sets in
      with_writer o r w was new l i within x x mine U V s (Goes d o r w U was new V (suc i) (Event.Room l) (Reply.Refused why)) (λ m at f.
      room_refused o r w was l i within x whole U V s m at f new all (workers ∙ nodes) mine why (h ∙ (λ j. room_test (names j) ((nodes j).items) (block j) x))))

  pub ends_short : new.workers ≡ now.workers → y ≡ x → StepsFrom d o r w now new who l x (Event.Room l) (Reply.Refused Refusal.Memory)
  unfolding Continues
  ends_short workers same = ends (Event.Room l) (Reply.Refused Refusal.Memory) (λ was i within all nodes names block area whole sets U V s.
      let mine = subst (λ z. ChangesAt was.hands.items new.hands.items i (SetsHand l (Hand.Writing x) (Hand.Writing z))) same sets in
      with_writer o r w was new l i within x x mine U V s (Goes d o r w U was new V (suc i) (Event.Room l) (Reply.Refused Refusal.Memory)) (λ m at f. room_short o r w was l i within x whole U V s m at f new all (workers ∙ nodes) mine))

  pub ends_same : None ≡ room_test now.master now.workers.items now.block x → wants_room x.bytes ≡ false → new.workers ≡ now.workers → y ≡ x → StepsFrom d o r w now new who l x (Event.Room l) Reply.Done
  unfolding Continues
  ends_same h wanted workers same = ends (Event.Room l) Reply.Done (λ was i within all nodes names block area whole sets U V s.
      let mine = subst (λ z. ChangesAt was.hands.items new.hands.items i (SetsHand l (Hand.Writing x) (Hand.Writing z))) same sets in
      with_writer o r w was new l i within x x mine U V s (Goes d o r w U was new V (suc i) (Event.Room l) Reply.Done) (λ m at f.
      room_same o r w was l i within x whole U V s m at f new all (workers ∙ nodes) mine (sym (h ∙ (λ j. room_test (names j) ((nodes j).items) (block j) x))) wanted))

  -- ---- behind a commit

  -- what a call said of the open block, where the writer has a reservation and its pen
  abbrev pub OfBlock : (ℕ → W → List (Node S) → List machine.NodeRow → ℕ → Type 0) → List (Node S) → List machine.NodeRow → ℕ → Type 0
  OfBlock P ns rows bs = IfSome x.room (λ n. IfSome (block_writer x.bytes) (λ pen. P n pen ns rows bs))

  block_was : (P : ℕ → W → List (Node S) → List machine.NodeRow → ℕ → Type 0) (was : Core D S R W d w) → now.workers ≡ was.workers → now.master ≡ was.master → now.block ≡ was.block → OfBlock P now.workers.items now.master.kept.names.nodes now.block → (n : ℕ) (pen : W) → x.room ≡ Some n → block_writer x.bytes ≡ Some pen → P n pen was.workers.items was.master.kept.names.nodes was.block
  block_was P was nodes names block said n pen reserved writes_to =
      let moved : OfBlock P was.workers.items was.master.kept.names.nodes was.block = subst (λ z. OfBlock P was.workers.items was.master.kept.names.nodes z) block (subst (λ z. OfBlock P was.workers.items z now.block) (ap (λ k. k.kept.names.nodes) names) (subst (λ z. OfBlock P z now.master.kept.names.nodes now.block) (ap (λ k. k.items) nodes) said)) in
      subst (λ q. IfSome q (λ p. P n p was.workers.items was.master.kept.names.nodes was.block)) writes_to (subst (λ e. IfSome e (λ k. IfSome (block_writer x.bytes) (λ p. P k p was.workers.items was.master.kept.names.nodes was.block))) reserved moved)

  -- the commit failed
  lost_by : (e : Option ℕ) → x.room ≡ e → (x.room ≡ None → ⊥) → (n : ℕ) × (x.room ≡ Some n)
  lost_by None is some = absurd (some is)
  lost_by (Some n) is some = (n, is)

  pub ends_lost : None ≡ room_test now.master now.workers.items now.block x → wants_room x.bytes ≡ true → (x.room ≡ None → ⊥) → OfBlock (λ n pen ns rows bs. ChangesAt ns new.workers.items (pred x.worker) (Loses o w n (key_at ns x.worker n) pen (finished_of rows bs x))) now.workers.items now.master.kept.names.nodes now.block → y ≡ closed_writer true x → StepsFrom d o r w now new who l x (Event.Room l) (Reply.Refused (Refusal.TierFault x.worker))
  unfolding Continues
  ends_lost h wanted some lost same = ends (Event.Room l) (Reply.Refused (Refusal.TierFault x.worker)) (λ was i within all nodes names block area whole sets U V s.
      let mine = subst (λ z. ChangesAt was.hands.items new.hands.items i (SetsHand l (Hand.Writing x) (Hand.Writing z))) same sets in
      let passes : room_test was.master was.workers.items was.block x ≡ None = sym (h ∙ (λ j. room_test (names j) ((nodes j).items) (block j) x)) in
      let room = lost_by x.room refl some in
      with_writer o r w was new l i within x (closed_writer true x) mine U V s (Goes d o r w U was new V (suc i) (Event.Room l) (Reply.Refused (Refusal.TierFault x.worker))) (λ m at f.
      room_lost o r w was new l i within x whole U V s m at f all passes wanted room.0 room.1 (λ pen takes. block_was (λ n pen ns rows bs. ChangesAt ns new.workers.items (pred x.worker) (Loses o w n (key_at ns x.worker n) pen (finished_of rows bs x))) was nodes names block lost room.0 pen room.1 takes) mine))

  module _ (mid : List (Node S)) (h : None ≡ room_test now.master now.workers.items now.block x) (wanted : wants_room x.bytes ≡ true) (done : OfBlock (λ n pen ns rows bs. ChangesAt ns mid (pred x.worker) (Commits o w n (key_at ns x.worker n) pen (finished_of rows bs x))) now.workers.items now.master.kept.names.nodes now.block) (kept : x.room ≡ None → mid ≡ now.workers.items) where
    passes_at : (was : Core D S R W d w) → now.workers ≡ was.workers → now.master ≡ was.master → now.block ≡ was.block → room_test was.master was.workers.items was.block x ≡ None
    passes_at was nodes names block = sym (h ∙ (λ j. room_test (names j) ((nodes j).items) (block j) x))

    commits_at : (was : Core D S R W d w) → now.workers ≡ was.workers → now.master ≡ was.master → now.block ≡ was.block → (n : ℕ) (pen : W) → x.room ≡ Some n → block_writer x.bytes ≡ Some pen → ChangesAt was.workers.items mid (pred x.worker) (Commits o w n (key_at was.workers.items x.worker n) pen (finished_of was.master.kept.names.nodes was.block x))
    commits_at was nodes names block = block_was (λ n pen ns rows bs. ChangesAt ns mid (pred x.worker) (Commits o w n (key_at ns x.worker n) pen (finished_of rows bs x))) was nodes names block done

    kept_at : (was : Core D S R W d w) → now.workers ≡ was.workers → x.room ≡ None → mid ≡ was.workers.items
    kept_at was nodes none = kept none ∙ ap (λ k. k.items) nodes

    -- a new block is open
    pub ends_opened : (k : ℕ) → y.room ≡ Some k → ChangesAt mid new.workers.items (pred x.worker) (Spaces o k x.bytes.bs) → OpensBlock w (closed_writer false x) y → IsSomeAnd (slice_get mid (pred x.worker)) (TellsAt o x.bytes.bs (block_writer y.bytes) w) → ((bytes : List ℕ) → HasTaken w (closed_bytes x.room x.bytes) bytes → HasTaken w y.bytes bytes) → StepsFrom d o r w now new who l x (Event.Room l) Reply.Done
    unfolding Continues
    ends_opened k reserved change opens tells has = ends (Event.Room l) Reply.Done (λ was i within all nodes names block area whole sets U V s.
        with_writer o r w was new l i within x y sets U V s (Goes d o r w U was new V (suc i) (Event.Room l) Reply.Done) (λ m at f.
        room_opened o r w was new l i within x whole U V s m at f all (passes_at was nodes names block) wanted mid (commits_at was nodes names block) (kept_at was nodes) k change y reserved opens tells has sets))

    -- no tier has room, which can't be
    pub ends_full : ChangesAt mid new.workers.items (pred x.worker) (IsFull o x.bytes.bs) → StepsFrom d o r w now new who l x (Event.Room l) (Reply.Refused (Refusal.NoRoom x.worker))
    unfolding Continues
    ends_full change = ends (Event.Room l) (Reply.Refused (Refusal.NoRoom x.worker)) (λ was i within all nodes names block area whole sets U V s.
        with_writer o r w was new l i within x y sets U V s (Goes d o r w U was new V (suc i) (Event.Room l) (Reply.Refused (Refusal.NoRoom x.worker))) (λ m at f.
        let both = both_there (slice_get mid (pred x.worker)) (slice_get new.workers.items (pred x.worker)) change.at in
        absurd (not_full o r w was new l i within x whole U V s m at f all (passes_at was nodes names block) wanted mid (commits_at was nodes names block) (kept_at was nodes) both.0 both.1 both.2 both.4.0)))

    -- the writer that got no block is the one whose block was committed
    same_closed : (was : Core D S R W d w) (U : Setup) (V : Whole) (s : Stands d o r w U was V) (i : ℕ) (m : machine.Writer) → x.broken ≡ false → WriterFits w s.known was.workers.items was.master.kept.names.next_id was.block (suc i, l) m x → (z : Writer W) → SameBytes w (closed_writer false x) z → z ≡ closed_writer false x
    same_closed was U V s i m whole f z same = same_writer w (closed_writer false x) z (closed_alone w x.room x.bytes ∙ (f.on whole).alone) same

    -- memory was short for it
    pub ends_closed : (new.workers.items ≡ mid) ⊎ ChangesAt mid new.workers.items (pred x.worker) (KeepsNode o x.bytes.bs) → SameBytes w (closed_writer false x) y → StepsFrom d o r w now new who l x (Event.Room l) (Reply.Refused Refusal.Memory)
    unfolding Continues
    ends_closed change same = ends (Event.Room l) (Reply.Refused Refusal.Memory) (λ was i within all nodes names block area whole sets U V s.
        with_writer o r w was new l i within x y sets U V s (Goes d o r w U was new V (suc i) (Event.Room l) (Reply.Refused Refusal.Memory)) (λ m at f.
        let is = same_closed was U V s i m whole f y same in
        let passes = passes_at was nodes names block in
        let begun = committed o r w was new l i within x whole U V s m at f all passes wanted mid (commits_at was nodes names block) (kept_at was nodes) in
        let parts : AfterCommit o U V.body m s.known (without_owner x.worker x.room s.known) (suc i, l) was.workers.items new.workers.items was.master.kept.names.next_id was.block was.master.journal.limit = elim change [
          | inl kept_all ↦ subst (λ ns. AfterCommit o U V.body m s.known (without_owner x.worker x.room s.known) (suc i, l) was.workers.items ns was.master.kept.names.next_id was.block was.master.journal.limit) (sym kept_all) begun
          | inr kept_node ↦ parts_kept o r w was new l i within x whole U V s m at f all passes wanted mid (commits_at was nodes names block) (kept_at was nodes) x.bytes.bs kept_node
        ] in
        room_closed o r w was new l i within x whole U V s m at f all passes wanted parts (subst (λ z. ChangesAt was.hands.items new.hands.items i (SetsHand l (Hand.Writing x) (Hand.Writing z))) is sets)))

    -- a tier failed it
    pub ends_failed : ChangesAt mid new.workers.items (pred x.worker) (FailsNode o x.bytes.bs) → (z : Writer W) → SameBytes w (closed_writer false x) z → y ≡ record z { broken = true } → StepsFrom d o r w now new who l x (Event.Room l) (Reply.Refused (Refusal.TierFault x.worker))
    unfolding Continues
    ends_failed change z same broke = ends (Event.Room l) (Reply.Refused (Refusal.TierFault x.worker)) (λ was i within all nodes names block area whole sets U V s.
        with_writer o r w was new l i within x y sets U V s (Goes d o r w U was new V (suc i) (Event.Room l) (Reply.Refused (Refusal.TierFault x.worker))) (λ m at f.
        let is : y ≡ closed_writer true x = broke ∙ ap (λ (k : Writer W). record k { broken = true }) (same_closed was U V s i m whole f z same) in
        let passes = passes_at was nodes names block in
        let parts = parts_kept o r w was new l i within x whole U V s m at f all passes wanted mid (commits_at was nodes names block) (kept_at was nodes) x.bytes.bs (changes_by mid new.workers.items (pred x.worker) change (λ a b c. c.0)) in
        let both = both_there (slice_get mid (pred x.worker)) (slice_get new.workers.items (pred x.worker)) change.at in
        let tier = some_tier both.0 both.1 (fitting both.0.book x.bytes.bs) both.4.1 in
        room_failed o r w was new l i within x whole U V s m at f all passes wanted parts (subst (λ k. ChangesAt was.hands.items new.hands.items i (SetsHand l (Hand.Writing x) (Hand.Writing k))) is sets) tier.0
        (rose_since o r w was new l i within x whole U V s m at f all passes wanted mid (commits_at was nodes names block) (kept_at was nodes) tier.0 (record { same_length = change.same_length; at = subst (λ q. IsSomeAnd q (λ a. IsSomeAnd (slice_get new.workers.items (pred x.worker)) (λ b. RoseAt o tier.0 a b))) (sym both.2) (subst (λ q. IsSomeAnd q (λ b. RoseAt o tier.0 both.0 b)) (sym both.3) tier.1); others = change.others }))))
      where
        some_tier : (a b : Node S) (q : Option ℕ) → IsSomeAnd q (λ t. ChangesAt a.tiers.items b.tiers.items t (λ s u. Rose (o.faults s) (o.faults u))) → (t : ℕ) × RoseAt o t a b
        some_tier a b None h = absurd h
        some_tier a b (Some t) h = (t, h.at)

-- ---- no unbroken writer is there

module _ {D S R W : Type 0} {d : disks.Ghosts D} (o : objects.Ghosts S R W) (r : reads.Ghosts R) (w : writes.Ghosts W) (was new : Core D S R W d w) (l : Label) where
  -- the machine finds no writer either
  no_writer : (i : ℕ) → i < 64 → (U : Setup) (V : Whole) (s : Stands d o r w U was V) → (q : Option (Hand R W)) → IsSomeAnd (slice_get was.hands.items i) (λ k. hand_in k l ≡ q) → IsNoWriter q → writer_at (hands_of V (suc i)) l ≡ None
  no_writer i within U V s None at none = ap (option_and_then unbroken_writer) (absent_at r w s.known was.workers.items was.master.kept.names.next_id was.block V.hands was.hands.items s.hands i within l at)
  no_writer i within U V s (Some (Hand.Reading x)) at none =
      let found = fits_at r w s.known was.workers.items was.master.kept.names.next_id was.block V.hands was.hands.items s.hands i within l (Hand.Reading x) at in
      stream found.0 found.1 found.2
    where
      stream : (k : machine.Hand) → hand_at (hands_of V (suc i)) l ≡ Some k → Fits r w s.known was.workers.items was.master.kept.names.next_id was.block (suc i, l) k (Hand.Reading x) → writer_at (hands_of V (suc i)) l ≡ None
      stream (machine.Hand.Reading k) is fits = ap (option_and_then unbroken_writer) is
      stream (machine.Hand.Writing k) is fits = absurd fits
      stream (machine.Hand.Moving k) is fits = absurd fits
      stream (machine.Hand.Storing k) is fits = absurd fits
  no_writer i within U V s (Some (Hand.Writing x)) at none =
      let found = fits_at r w s.known was.workers.items was.master.kept.names.next_id was.block V.hands was.hands.items s.hands i within l (Hand.Writing x) at in
      writer found.0 found.1 found.2
    where
      writer : (k : machine.Hand) → hand_at (hands_of V (suc i)) l ≡ Some k → Fits r w s.known was.workers.items was.master.kept.names.next_id was.block (suc i, l) k (Hand.Writing x) → writer_at (hands_of V (suc i)) l ≡ None
      writer (machine.Hand.Reading k) is fits = absurd fits
      writer (machine.Hand.Writing k) is fits = ap (option_and_then unbroken_writer) is ∙ ap (λ b. cond b None (Some k)) (fits.broken ∙ none)
      writer (machine.Hand.Moving k) is fits = absurd fits
      writer (machine.Hand.Storing k) is fits = absurd fits

  looked_up : (i : ℕ) (y : Option (LabelsView (Hand R W))) → IsSomeAnd y (λ k. IsNoWriter (hand_in k l)) → (q : Option (Hand R W)) × IsSomeAnd y (λ k. hand_in k l ≡ q) × IsNoWriter q
  looked_up i None h = absurd h
  looked_up i (Some k) h = (hand_in k l, refl, h)

  pub room_bad : (who : ℕ) → is_actor who ≡ true → KeepsRest was new → new.workers ≡ was.workers → ChangesAt was.hands.items new.hands.items (pred who) KeepsHands → IsSomeAnd (slice_get was.hands.items (pred who)) (λ k. IsNoWriter (hand_in k l)) → Steps d o r w was new who (Event.Room l) (Reply.Refused Refusal.BadLabel)
  room_bad who actor rest workers kept none U V s = by_actor (λ a. ChangesAt was.hands.items new.hands.items (pred a) KeepsHands → IsSomeAnd (slice_get was.hands.items (pred a)) (λ k. IsNoWriter (hand_in k l)) → Goes d o r w U was new V a (Event.Room l) (Reply.Refused Refusal.BadLabel)) (λ i within keeps gone.
      let q = looked_up i (slice_get was.hands.items i) gone in
      let bad : refusal U V.body (hands_of V (suc i)) (Event.Room l) ≡ bad_label = ap (λ (y : Option machine.Writer). elim y as (λ t. Option Reply) [ None ↦ bad_label | Some k ↦ room_refusal_of U V.body k ]) (no_writer i within U V s q.0 q.1 q.2) in
      goes_refused o r w U was new V (suc i) (Event.Room l) (Reply.Refused Refusal.BadLabel) (stands_kept o r w U V was new i within rest workers keeps s) bad refl refl) who actor kept none
