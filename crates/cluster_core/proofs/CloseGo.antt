-- The end of a label as a step of the file machine.
use Rattle.std.proofs.Common.{◌≡◌, ℕ, zero, suc, pred, ◌<◌, ◌≤◌, ◌^◌, true, false, cond, get_or, nat_le, nat_lt, nat_eq, ◌&&◌, ap₂, Option, Some, None, is_none, refl, sym, ap, ◌∙◌, subst, arith, length}
use Rattle.std.specs.Prelude.{IsSomeAnd, IfSome, slice_get, option_and_then, option_map, not}
use Rattle.std.proofs.lemmas.List.{set-get_or}
use Rattle.std.proofs.lemmas.List.Elements.{All-weaker, All-filter}
use Rattle.std.proofs.lemmas.Bool.{and_parts, leb-true}
use Rattle.fs_model.specs.declared.setup.Setup.{Setup}
use Rattle.fs_model.specs.declared.label.Label.{Label}
use Rattle.fs_model.specs.declared.event.Event.{Event}
use Rattle.fs_model.specs.declared.reply.Reply.{Reply}
use Rattle.fs_model.specs.declared.reply.Refusal.{Refusal}
use Rattle.fs_model.specs.Spelled.{is_actor}
use Rattle.fs_model.specs.State as machine
use Rattle.fs_model.specs.State.{State, Whole, Hands, OpenBlock, Copied, Worker}
use Rattle.fs_model.specs.Lookups.{hand_at, runs_since, no_worker}
use Rattle.fs_model.specs.Tests.{refuse}
use Rattle.fs_model.specs.Updates.{release, end_hand, without_room, change_worker}
use Rattle.fs_model.specs.BytesOutcomes.{Outcome, close_by, settle_workers, free_open}
use Rattle.fs_model.specs.Choices.{fault_free}
use Rattle.fs_model.specs.Journaling.{fuse_serves}
use Rattle.fs_model.specs.Machine.{accepted, hands_of, put_back}
use Rattle.fs_model.specs.Step.{Step, label_choices}
use Rattle.outside.specs.declared.disk.Disk as disks
use Rattle.outside.specs.declared.objects.Objects as objects
use Rattle.outside.specs.declared.objects.ObjectRead as reads
use Rattle.outside.specs.declared.objects.ObjectWrite as writes
use Rattle.tier_book.specs.Rows.{room_numbered}
use Rattle.cluster_core.proofs.Named.{serves_none}
use Rattle.cluster_core.specs.Tiers.{ChangesAt}
use Rattle.cluster_core.specs.LabelsView.{hand_in}
use Rattle.cluster_core.specs.HandChanges.{EndsHand, KeepsHands}
use Rattle.cluster_core.specs.HandFits.{Fits, StreamFits, WriterFits}
use Rattle.cluster_core.specs.Knowledge.{Leaves, HasRoomOf}
use Rattle.cluster_core.specs.Kept.{KeepsRest}
use Rattle.cluster_core.specs.Stands.{Stands, WorkersStand, SetupFits, NodesStand, NodeStands, CopyStands}
use Rattle.cluster_core.specs.Here.{runs_here}
use Rattle.cluster_core.specs.Nodes.{FreesRoom}
use Rattle.std.specs.List.{All}
use Rattle.cluster_core.specs.Goes.{Goes, Steps, Rises, no_rise}
use Rattle.cluster_core.specs.declared.cluster.Core.{Core}
use Rattle.cluster_core.specs.declared.hand.Hand.{Hand}
use Rattle.cluster_core.specs.declared.hand.Stream.{Stream}
use Rattle.cluster_core.specs.declared.hand.Writer.{Writer}
use Rattle.cluster_core.specs.declared.node.Node.{Node}
use Rattle.cluster_core.proofs.Standing.{stands_by, goes_refused}
use Rattle.cluster_core.proofs.HandStays.{some_same}
use Rattle.cluster_core.proofs.NodeChanges.{changes_by, workers_change, setup_stays}
use Rattle.cluster_core.proofs.RoomChanges.{KeepsRooms, rooms_leave, other_room}
use Rattle.cluster_core.specs.Reserved.{room_in}
use Rattle.cluster_core.proofs.KeptHands.{stands_kept, kept_twice}
use Rattle.cluster_core.proofs.HereIs.{runs_is, runs_there}
use Rattle.cluster_core.proofs.Frames.{known_all, nodes_change, copy_moves}
use Rattle.cluster_core.proofs.NodeRows.{row_freed}
use Rattle.cluster_core.proofs.Labelled.{fits_at, absent_at, end_there, hands_ended, leaves_all}

-- what is said of each actor is said of one that is an actor
pub by_actor : (P : ℕ → Type 0) → ((i : ℕ) → i < 64 → P (suc i)) → (who : ℕ) → is_actor who ≡ true → P who
by_actor P each zero h = absurd (cc)
by_actor P each (suc i) h = each i (let few : suc i ≤ 64 = leb-true (suc i) 64 (and_parts (nat_le 1 (suc i)) (nat_le (suc i) 64) h).1 in omega (arith, few))

-- ---- a writer's reservation

module _ (A : State) (m : machine.Writer) where
  -- what freeing does to the worker, by the reservation that the open block has
  abbrev freed_by : Option ℕ → Worker → Worker
  freed_by o W = elim o [ None ↦ W | Some n ↦ cond (runs_since A m.worker m.start) (without_room n W) W ]

  open_freed : (b : Option OpenBlock) (W : Worker) → free_open A m b W ≡ freed_by (option_and_then (λ c. c.room) b) W
  open_freed None W = refl
  open_freed (Some c) W = refl

module _ {D S R W : Type 0} {d : disks.Ghosts D} (o : objects.Ghosts S R W) (r : reads.Ghosts R) (w : writes.Ghosts W) (old new : Core D S R W d w) (l : Label) (i : ℕ) (within : i < 64) (rest : KeepsRest old new) where
  -- ---- a stream

  module _ (x : Stream R) (workers : new.workers ≡ old.workers) (hands : ChangesAt old.hands.items new.hands.items i (EndsHand l (Hand.Reading x))) (U : Setup) (V : Whole) (s : Stands d o r w U old V) where
    close_reading : (m : machine.Stream) → hand_at (hands_of V (suc i)) l ≡ Some (machine.Hand.Reading m) → StreamFits r s.known old.master.kept.names.next_id old.block m x → Goes d o r w U old new V (suc i) (Event.Close l) Reply.Done
    close_reading m at fits =
        let H = hands_of V (suc i) in
        let B = release (suc i) l V.body in
        let after = put_back V (suc i) B (end_hand l H) in
        let done : ◌≡◌ {A = Outcome} (Reply.Done, B, end_hand l H) (accepted U (fault_free 0) V.body H (suc i) (Event.Close l)) = sym (ap (λ h. let x : Outcome = (Reply.Done, close_by U (fault_free 0) V.body (suc i) l h, end_hand l H) in x) at ∙ ap (λ c. let x : Outcome = (Reply.Done, release (suc i) l (record V.body { workers = settle_workers U (fault_free 0) V.body m c V.body.workers }), end_hand l H) in x) fits.cache) in
        record {
          after = after;
          rise = no_rise;
          made = None;
          stands = stands_by o r w U new after s.known old.block old.master.journal.limit old.master old.workers.items new.hands.items rest.block (ap (λ k. k.journal.limit) rest.master) rest.master (ap (λ v. v.items) workers) refl (record {
            setup = s.setup;
            named = record { names = s.names.names; gate = s.names.gate; generation = s.names.generation; fuse = s.names.fuse; down = s.names.down; unlocked = s.names.unlocked; unseen = s.names.unseen };
            areas = s.areas;
            workers = record { rows = s.workers.rows; registrations = s.workers.registrations; first = s.workers.first; one = s.workers.one };
            hands = hands_ended r w s.known s.known old.workers.items old.workers.items old.master.kept.names.next_id old.master.kept.names.next_id old.block i l (leaves_all (suc i, l) s.known old.workers.items old.master.kept.names.next_id) V.hands old.hands.items new.hands.items s.hands within (Hand.Reading x) (machine.Hand.Reading m) at hands;
            files = s.files;
            objects = s.objects;
          });
          rises = Rises.Nothing;
          step = record {
            body = B;
            hands = end_hand l H;
            step = Step.Accepted (fault_free 0) (ap (λ h. refuse Refusal.BadLabel (is_none h)) at) refl (serves_none V.body.master.fuse) (ap (label_choices no_rise (fault_free 0)) at) done refl;
            after = refl;
          };
        }

    close_by_kind : (k : machine.Hand) → hand_at (hands_of V (suc i)) l ≡ Some k → Fits r w s.known old.workers.items old.master.kept.names.next_id old.block (suc i, l) k (Hand.Reading x) → Goes d o r w U old new V (suc i) (Event.Close l) Reply.Done
    close_by_kind (machine.Hand.Reading m) at fits = close_reading m at fits
    close_by_kind (machine.Hand.Writing m) at fits = absurd fits
    close_by_kind (machine.Hand.Moving m) at fits = absurd fits
    close_by_kind (machine.Hand.Storing m) at fits = absurd fits

    pub close_stream : Goes d o r w U old new V (suc i) (Event.Close l) Reply.Done
    close_stream =
        let found = fits_at r w s.known old.workers.items old.master.kept.names.next_id old.block V.hands old.hands.items s.hands i within l (Hand.Reading x) (end_there i l (Hand.Reading x) old.hands.items new.hands.items hands) in
        close_by_kind found.0 found.1 found.2

  -- ---- a writer

  module _ (x : Writer W) (hands : ChangesAt old.hands.items new.hands.items i (EndsHand l (Hand.Writing x))) (U : Setup) (V : Whole) (s : Stands d o r w U old V) where
    -- the label's end, with what it does to the writer's worker
    close_writing : (m : machine.Writer) (f : Worker → Worker) → hand_at (hands_of V (suc i)) l ≡ Some (machine.Hand.Writing m) → ((W : Worker) → free_open V.body m m.block W ≡ f W)
        → WorkersStand new.workers.items (change_worker m.worker f V.body) → SetupFits U old.block old.master.journal.limit new.workers.items → NodesStand o s.known old.master.kept.names.next_id old.block new.workers.items
        → Leaves (suc i, l) s.known s.known old.workers.items new.workers.items old.master.kept.names.next_id old.master.kept.names.next_id → Goes d o r w U old new V (suc i) (Event.Close l) Reply.Done
    close_writing m f at frees workers setup objects left =
        let H = hands_of V (suc i) in
        let B = release (suc i) l (change_worker m.worker f V.body) in
        let after = put_back V (suc i) B (end_hand l H) in
        let done : ◌≡◌ {A = Outcome} (Reply.Done, B, end_hand l H) (accepted U (fault_free 0) V.body H (suc i) (Event.Close l)) =
        sym (ap (λ h. let x : Outcome = (Reply.Done, close_by U (fault_free 0) V.body (suc i) l h, end_hand l H) in x) at ∙ (λ j. let x : Outcome = (Reply.Done, release (suc i) l (change_worker m.worker (λ W. frees W j) V.body), end_hand l H) in x)) in
        record {
          after = after;
          rise = no_rise;
          made = None;
          stands = stands_by o r w U new after s.known old.block old.master.journal.limit old.master new.workers.items new.hands.items rest.block (ap (λ k. k.journal.limit) rest.master) rest.master refl refl (record {
            setup = setup;
            named = record { names = s.names.names; gate = s.names.gate; generation = s.names.generation; fuse = s.names.fuse; down = s.names.down; unlocked = s.names.unlocked; unseen = s.names.unseen };
            areas = s.areas;
            workers = record { rows = workers.rows; registrations = workers.registrations; first = workers.first; one = workers.one };
            hands = hands_ended r w s.known s.known old.workers.items new.workers.items old.master.kept.names.next_id old.master.kept.names.next_id old.block i l left V.hands old.hands.items new.hands.items s.hands within (Hand.Writing x) (machine.Hand.Writing m) at hands;
            files = s.files;
            objects = objects;
          });
          rises = Rises.Nothing;
          step = record {
            body = B;
            hands = end_hand l H;
            step = Step.Accepted (fault_free 0) (ap (λ h. refuse Refusal.BadLabel (is_none h)) at) refl (serves_none V.body.master.fuse) (ap (label_choices no_rise (fault_free 0)) at) done refl;
            after = refl;
          };
        }

    -- nothing is freed
    close_kept : (m : machine.Writer) → hand_at (hands_of V (suc i)) l ≡ Some (machine.Hand.Writing m) → ((W : Worker) → free_open V.body m m.block W ≡ W) → new.workers ≡ old.workers → Goes d o r w U old new V (suc i) (Event.Close l) Reply.Done
    close_kept m at frees same =
        let nodes : new.workers.items ≡ old.workers.items = ap (λ v. v.items) same in
        close_writing m (λ W. W) at frees
        (subst (λ ns. WorkersStand ns (change_worker m.worker (λ W. W) V.body)) (sym nodes) (record { rows = set-get_or V.body.workers (pred m.worker) no_worker ∙ s.workers.rows; registrations = s.workers.registrations; first = λ v runs. s.workers.first v (ap (λ ws. nat_lt 0 v && (get_or ws (pred v) no_worker).running) (sym (set-get_or V.body.workers (pred m.worker) no_worker)) ∙ runs); one = λ some. ap (λ ws. (get_or ws 0 no_worker).running) (set-get_or V.body.workers (pred m.worker) no_worker) ∙ s.workers.one (subst (λ ws. 0 < length ws) (set-get_or V.body.workers (pred m.worker) no_worker) some) }))
        (subst (λ ns. SetupFits U old.block old.master.journal.limit ns) (sym nodes) s.setup)
        (subst (NodesStand o s.known old.master.kept.names.next_id old.block) (sym nodes) s.objects)
        (subst (λ ns. Leaves (suc i, l) s.known s.known old.workers.items ns old.master.kept.names.next_id old.master.kept.names.next_id) (sym nodes) (leaves_all (suc i, l) s.known old.workers.items old.master.kept.names.next_id))

    -- the reservation is freed
    close_freed : (m : machine.Writer) (n : ℕ) → hand_at (hands_of V (suc i)) l ≡ Some (machine.Hand.Writing m) → m.worker ≡ x.worker → (x.worker ≡ 0 → ⊥) → s.known.owner x.worker n ≡ Some (suc i, l) → ((W : Worker) → free_open V.body m m.block W ≡ without_room n W)
        → ChangesAt old.workers.items new.workers.items (pred x.worker) (FreesRoom n) → Goes d o r w U old new V (suc i) (Event.Close l) Reply.Done
    close_freed m n at worker some owned frees change =
        let here : ChangesAt old.workers.items new.workers.items (pred m.worker) (FreesRoom n) = subst (λ v. ChangesAt old.workers.items new.workers.items (pred v) (FreesRoom n)) (sym worker) change in
        let rows = changes_by old.workers.items new.workers.items (pred m.worker) here (λ a b c. row_freed n a b c) in
        close_writing m (without_room n) at frees
        (workers_change (without_room n) old.workers.items new.workers.items m.worker rows V.body s.workers)
        (setup_stays (without_room n) old.workers.items new.workers.items m.worker rows s.setup)
        (nodes_change o s.known s.known old.master.kept.names.next_id old.master.kept.names.next_id old.block (known_all s.known old.master.kept.names.next_id) old.workers.items new.workers.items (pred m.worker) (FreesRoom n) here (λ v a b stands c. freed_stands n v a b stands c) s.objects)
        (record {
          later = omega arith;
          files = λ id few other. (refl, refl);
          owners = λ v k b h other. h;
          rooms = rooms_leave s.known (suc i, l) old.workers.items new.workers.items x.worker n some (changes_by old.workers.items new.workers.items (pred x.worker) change (λ a b c. rooms_kept n a b c)) (λ b h other. other (some_same b (suc i, l) (sym h ∙ owned)));
        })
      where
        rooms_kept : (n : ℕ) (a b : Node S) → FreesRoom n a b → KeepsRooms n a b
        rooms_kept n a b c = record { started = c.0.started; rooms = λ k q other found. ap (room_numbered k) c.0.rooms ∙ other_room n k a.book.rooms other ∙ found }

        freed_stands : (n v : ℕ) (a b : Node S) → NodeStands o s.known old.master.kept.names.next_id old.block v a → FreesRoom n a b → NodeStands o s.known old.master.kept.names.next_id old.block v b
        freed_stands n v a b stands c = record {
          tells = λ t u there. stands.tells t u (ap (λ ts. slice_get ts.items t) (sym c.1) ∙ there);
          copies = subst (All (CopyStands o s.known old.master.kept.names.next_id old.block v b)) (sym c.0.rows) (All-weaker (CopyStands o s.known old.master.kept.names.next_id old.block v a) (CopyStands o s.known old.master.kept.names.next_id old.block v b) (copy_moves o s.known old.master.kept.names.next_id old.block v a b c.0.started c.0.next c.1) a.book.rows stands.copies);
          rooms = subst (All (λ q. q.number < b.book.next)) (sym c.0.rooms) (All-filter (λ q. not (nat_eq q.number n)) (λ q. q.number < b.book.next) a.book.rooms (subst (λ k. All (λ q. q.number < k) a.book.rooms) (sym c.0.next) stands.rooms));
          few = subst (λ k. k ≤ 2 ^ 63) (sym c.0.next) stands.few;
          fresh = λ k h. stands.fresh k (subst (λ z. z ≤ k) c.0.next h);
        }

    by_room : (m : machine.Writer) (e : Option ℕ) → x.room ≡ e → hand_at (hands_of V (suc i)) l ≡ Some (machine.Hand.Writing m) → WriterFits w s.known old.workers.items old.master.kept.names.next_id old.block (suc i, l) m x
        → ((n : ℕ) → x.room ≡ Some n → runs_here old.workers.items x.worker x.started ≡ true → ChangesAt old.workers.items new.workers.items (pred x.worker) (FreesRoom n))
        → ((n : ℕ) → x.room ≡ Some n → runs_here old.workers.items x.worker x.started ≡ false → new.workers ≡ old.workers)
        → (x.room ≡ None → new.workers ≡ old.workers) → Goes d o r w U old new V (suc i) (Event.Close l) Reply.Done
    by_room m None is at fits freed stopped none = close_kept m at (λ W. open_freed V.body m m.block W ∙ ap (λ q. freed_by V.body m q W) (fits.room ∙ is)) (none is)
    by_room m (Some n) is at fits freed stopped none =
        let frees : (W : Worker) → free_open V.body m m.block W ≡ cond (runs_here old.workers.items x.worker x.started) (without_room n W) W = λ W. open_freed V.body m m.block W ∙ ap (λ q. freed_by V.body m q W) (fits.room ∙ is) ∙ ap (λ b. cond b (without_room n W) W) (runs_is old.workers.items V.body s.workers m.worker m.start ∙ ap₂ (runs_here old.workers.items) fits.worker fits.start) in
        elim (runs_here old.workers.items x.worker x.started) as (λ b. runs_here old.workers.items x.worker x.started ≡ b → Goes d o r w U old new V (suc i) (Event.Close l) Reply.Done) [
          | true ↦ λ runs. close_freed m n at fits.worker (runs_there old.workers.items x.worker x.started runs) (subst (λ q. IfSome q (λ k. (s.known.owner x.worker k ≡ Some (suc i, l)) × HasRoomOf old.workers.items x.worker x.started k old.block)) is fits.reserved).0 (λ W. frees W ∙ ap (λ b. cond b (without_room n W) W) runs) (freed n is runs)
          | false ↦ λ stops. close_kept m at (λ W. frees W ∙ ap (λ b. cond b (without_room n W) W) stops) (stopped n is stops)
        ] refl

    writer_by_kind : (k : machine.Hand) → hand_at (hands_of V (suc i)) l ≡ Some k → Fits r w s.known old.workers.items old.master.kept.names.next_id old.block (suc i, l) k (Hand.Writing x)
        → ((n : ℕ) → x.room ≡ Some n → runs_here old.workers.items x.worker x.started ≡ true → ChangesAt old.workers.items new.workers.items (pred x.worker) (FreesRoom n))
        → ((n : ℕ) → x.room ≡ Some n → runs_here old.workers.items x.worker x.started ≡ false → new.workers ≡ old.workers)
        → (x.room ≡ None → new.workers ≡ old.workers) → Goes d o r w U old new V (suc i) (Event.Close l) Reply.Done
    writer_by_kind (machine.Hand.Reading m) at fits freed stopped none = absurd fits
    writer_by_kind (machine.Hand.Writing m) at fits freed stopped none = by_room m x.room refl at fits freed stopped none
    writer_by_kind (machine.Hand.Moving m) at fits freed stopped none = absurd fits
    writer_by_kind (machine.Hand.Storing m) at fits freed stopped none = absurd fits

    pub close_writer : ((n : ℕ) → x.room ≡ Some n → runs_here old.workers.items x.worker x.started ≡ true → ChangesAt old.workers.items new.workers.items (pred x.worker) (FreesRoom n))
        → ((n : ℕ) → x.room ≡ Some n → runs_here old.workers.items x.worker x.started ≡ false → new.workers ≡ old.workers)
        → (x.room ≡ None → new.workers ≡ old.workers) → Goes d o r w U old new V (suc i) (Event.Close l) Reply.Done
    close_writer freed stopped none =
        let found = fits_at r w s.known old.workers.items old.master.kept.names.next_id old.block V.hands old.hands.items s.hands i within l (Hand.Writing x) (end_there i l (Hand.Writing x) old.hands.items new.hands.items hands) in
        writer_by_kind found.0 found.1 found.2 freed stopped none

module _ {D S R W : Type 0} {d : disks.Ghosts D} (o : objects.Ghosts S R W) (r : reads.Ghosts R) (w : writes.Ghosts W) (old new : Core D S R W d w) (l : Label) where
  -- no such label
  pub close_refused : (who : ℕ) → is_actor who ≡ true → KeepsRest old new → new.workers ≡ old.workers → ChangesAt old.hands.items new.hands.items (pred who) KeepsHands → IsSomeAnd (slice_get old.hands.items (pred who)) (λ s. hand_in s l ≡ None) → Steps d o r w old new who (Event.Close l) (Reply.Refused Refusal.BadLabel)
  close_refused who is rest workers change absent U V s = by_actor (λ a. ChangesAt old.hands.items new.hands.items (pred a) KeepsHands → IsSomeAnd (slice_get old.hands.items (pred a)) (λ s. hand_in s l ≡ None) → Goes d o r w U old new V a (Event.Close l) (Reply.Refused Refusal.BadLabel)) (λ i within kept none.
      let gone : hand_at (hands_of V (suc i)) l ≡ None = absent_at r w s.known old.workers.items old.master.kept.names.next_id old.block V.hands old.hands.items s.hands i within l none in
      goes_refused o r w U old new V (suc i) (Event.Close l) (Reply.Refused Refusal.BadLabel) (stands_kept o r w U V old new i within rest workers kept s) (ap (λ h. refuse Refusal.BadLabel (is_none h)) gone) refl refl) who is change absent

  -- the label ends, and its reservation is freed where the worker wasn't started anew
  pub close_done : (who : ℕ) → is_actor who ≡ true → (h : Hand R W) → KeepsRest old new → ChangesAt old.hands.items new.hands.items (pred who) (EndsHand l h)
      → ((v started n : ℕ) → room_in h ≡ Some (v, started, n) → runs_here old.workers.items v started ≡ true → ChangesAt old.workers.items new.workers.items (pred v) (FreesRoom n))
      → ((v started n : ℕ) → room_in h ≡ Some (v, started, n) → runs_here old.workers.items v started ≡ false → new.workers ≡ old.workers)
      → (room_in h ≡ None → new.workers ≡ old.workers) → Steps d o r w old new who (Event.Close l) Reply.Done
  close_done who is (Hand.Reading x) rest change freed stopped none U V s = by_actor (λ a. ChangesAt old.hands.items new.hands.items (pred a) (EndsHand l (Hand.Reading x)) → Goes d o r w U old new V a (Event.Close l) Reply.Done) (λ i within ends. close_stream o r w old new l i within rest x (none refl) ends U V s) who is change
  close_done who is (Hand.Writing x) rest change freed stopped none U V s = by_actor (λ a. ChangesAt old.hands.items new.hands.items (pred a) (EndsHand l (Hand.Writing x)) → Goes d o r w U old new V a (Event.Close l) Reply.Done) (λ i within ends.
      close_writer o r w old new l i within rest x ends U V s
      (λ n there runs. freed x.worker x.started n (ap (option_map (λ k. (x.worker, x.started, k))) there) runs)
      (λ n there stops. stopped x.worker x.started n (ap (option_map (λ k. (x.worker, x.started, k))) there) stops)
      (λ gone. none (ap (option_map (λ k. (x.worker, x.started, k))) gone))) who is change

  -- the same, where the hand is taken out first and its reservation freed then
  pub close_taken : (mid : Core D S R W d w) (who : ℕ) → is_actor who ≡ true → (h : Hand R W) → KeepsRest old mid → mid.workers ≡ old.workers → ChangesAt old.hands.items mid.hands.items (pred who) (EndsHand l h) → KeepsRest mid new → new.hands ≡ mid.hands
      → ((v started n : ℕ) → room_in h ≡ Some (v, started, n) → runs_here mid.workers.items v started ≡ true → ChangesAt mid.workers.items new.workers.items (pred v) (FreesRoom n))
      → ((v started n : ℕ) → room_in h ≡ Some (v, started, n) → runs_here mid.workers.items v started ≡ false → new.workers ≡ mid.workers)
      → (room_in h ≡ None → new.workers ≡ mid.workers) → Steps d o r w old new who (Event.Close l) Reply.Done
  close_taken mid who is h first workers taken second hands freed stopped none =
      let nodes : mid.workers.items ≡ old.workers.items = ap (λ v. v.items) workers in
      close_done who is h (kept_twice old mid new first second) (subst (λ ls. ChangesAt old.hands.items ls (pred who) (EndsHand l h)) (ap (λ v. v.items) (sym hands)) taken)
      (λ v started n there runs. subst (λ ns. ChangesAt ns new.workers.items (pred v) (FreesRoom n)) nodes (freed v started n there (ap (λ ns. runs_here ns v started) nodes ∙ runs)))
      (λ v started n there stops. stopped v started n there (ap (λ ns. runs_here ns v started) nodes ∙ stops) ∙ workers)
      (λ gone. none gone ∙ workers)
