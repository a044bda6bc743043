-- Room where a new block is opened, where it can't be, and where the commit failed, as steps of the file machine.
use Rattle.std.proofs.Common.{◌≡◌, ℕ, zero, suc, pred, ◌+◌, ◌*◌, ◌<◌, ◌≤◌, ◌^◌, true, false, ◌&&◌, cond, List, [], length, nat_eq, nat_le, Option, Some, None, is_none, is_some, inl, inr, refl, sym, ap, ap₂, ◌∙◌, subst, arith}
use Rattle.std.specs.Prelude.{IsSomeAnd, IfSome, slice_get}
use Rattle.std.proofs.lemmas.List.{set-get_or}
use Rattle.std.proofs.lemmas.Bool.{eq-eqb, leb-false}
use Rattle.fs_model.specs.declared.setup.Setup.{Setup}
use Rattle.fs_model.specs.declared.label.Label.{Label}
use Rattle.fs_model.specs.declared.event.Event.{Event}
use Rattle.fs_model.specs.declared.reply.Reply.{Reply}
use Rattle.fs_model.specs.declared.reply.Refusal.{Refusal}
use Rattle.fs_model.specs.State as machine
use Rattle.fs_model.specs.State.{State, Whole, Hands, Worker, OpenBlock, RoomRow}
use Rattle.fs_model.specs.Lookups.{hand_at, no_worker}
use Rattle.fs_model.specs.Updates.{set_hand, change_worker}
use Rattle.fs_model.specs.BytesOutcomes.{BodyAndHands, close_block, room_to_litter}
use Rattle.fs_model.specs.Faults.{BlockFate, writer_after_fault}
use Rattle.fs_model.specs.Machine.{hands_of, put_back}
use Rattle.fs_model.specs.Step.{Step}
use Rattle.outside.specs.declared.disk.Disk as disks
use Rattle.outside.specs.declared.objects.Objects as objects
use Rattle.outside.specs.declared.objects.ObjectRead as reads
use Rattle.outside.specs.declared.objects.ObjectWrite as writes
use Rattle.file_writer.specs.Writing.{block_writer, wants_room}
use Rattle.cluster_core.proofs.Named.{serves_none, writes_whole}
use Rattle.cluster_core.specs.Tiers.{ChangesAt}
use Rattle.cluster_core.specs.Here.{runs_here}
use Rattle.cluster_core.specs.HandChanges.{SetsHand}
use Rattle.cluster_core.specs.HandFits.{WriterFits}
use Rattle.cluster_core.specs.Kept.{KeepsRest}
use Rattle.cluster_core.specs.Knowledge.{Knowledge, Leaves, with_owner}
use Rattle.cluster_core.specs.Stands.{Stands, WorkersStand, NodesStand}
use Rattle.cluster_core.specs.Goes.{Goes, Rises, no_rise, tier_rise, TierRose}
use Rattle.cluster_core.specs.Writers.{Commits, Loses, room_test}
use Rattle.cluster_core.specs.Committed.{finished_of, key_at, closed_writer}
use Rattle.cluster_core.specs.declared.cluster.Core.{Core}
use Rattle.cluster_core.specs.declared.hand.Hand.{Hand}
use Rattle.cluster_core.specs.declared.hand.Writer.{Writer}
use Rattle.cluster_core.specs.declared.node.Node.{Node}
use Rattle.cluster_core.proofs.Standing.{stands_by}
use Rattle.cluster_core.proofs.Labelled.{hands_set}
use Rattle.cluster_core.proofs.Frames.{known_all}
use Rattle.cluster_core.proofs.CommitParts.{without_owner}
use Rattle.cluster_core.proofs.ClosedBlock.{AfterCommit, broken_fits}
use Rattle.std.proofs.lemmas.Option.{same_Some}
use Rattle.tier_book.specs.Rows.{fitting}
use Rattle.cluster_core.specs.Here.{by_node}
use Rattle.cluster_core.specs.Writers.{lacks_room, next_of}
use Rattle.fs_model.specs.Lookups.{at_number}
use Rattle.cluster_core.proofs.NodeChanges.{both_there}
use Rattle.cluster_core.proofs.RoomChanges.{at_suc}
use Rattle.cluster_core.proofs.RoomTests.{behind}
use Rattle.cluster_core.proofs.CommitGo.{known, within_block}
use Rattle.cluster_core.proofs.CommitParts.{room_there}
use Rattle.cluster_core.proofs.Faulty.{NoLess, RoseAt, rose_later, same_no_less, commit_no_less}
use Rattle.cluster_core.proofs.FreeAfter.{number_committed, none_before}
use Rattle.cluster_core.proofs.RoomEnds.{file, runs, stands, no_refusal, committed, files_owned, numbers_left, room_left}
use Rattle.std.specs.List.{All}
use Rattle.fs_model.specs.Words.{block_count}
use Rattle.fs_model.specs.Lookups.{worker, placed}
use Rattle.fs_model.specs.Updates.{take_room, with_room}
use Rattle.fs_model.specs.BytesOutcomes.{Outcome, room_by, room_if, with_reply, opened, open_cached_if, opens_cached}
use Rattle.fs_model.specs.Choices.{fault_free}
use Rattle.fs_model.specs.Journaling.{fuse_serves}
use Rattle.fs_model.specs.Machine.{accepted}
use Rattle.tier_book.specs.Rows.{room_numbered}
use Rattle.file_writer.specs.Writing.{Writing}
use Rattle.file_writer.specs.Taken.{HasTaken}
use Rattle.cluster_core.specs.Tiers.{Keeps}
use Rattle.cluster_core.specs.Nodes.{HasSpace}
use Rattle.cluster_core.specs.Opened.{Spaces, OpensBlock, TellsAt}
use Rattle.cluster_core.specs.HandFits.{open_of}
use Rattle.cluster_core.specs.Knowledge.{HasRoomOf}
use Rattle.cluster_core.specs.Stands.{NodeStands}
use Rattle.cluster_core.specs.Committed.{closed_bytes}
use Rattle.cluster_core.proofs.NodeChanges.{RowChanges, changes_by, changes_exactly, workers_change, setup_stays}
use Rattle.cluster_core.proofs.RoomChanges.{KeepsRooms, rooms_leave}
use Rattle.cluster_core.proofs.RoomTests.{next_is, placed_is, len_is}
use Rattle.cluster_core.proofs.SpaceNode.{not_both, nodes_spaced, node_spaced, row_spaced, rooms_spaced}
use Rattle.cluster_core.proofs.OpenedBlock.{block_tells_at, empty_block, empty_within, found_last, no_object, one_more}
use Rattle.cluster_core.proofs.ClosedBlock.{closed_taken, closed_alone}
use Rattle.std.proofs.lemmas.Bool.{cases_eq}
use Rattle.cluster_core.specs.Opened.{KeepsNode}
use Rattle.cluster_core.proofs.Frames.{nodes_change}
use Rattle.cluster_core.proofs.CommitGo.{bytes, open_is}
use Rattle.cluster_core.proofs.SpaceNode.{node_kept, row_kept}
use Rattle.cluster_core.proofs.RoomEnds.{begun_as, litter_left, left_by, may, wants, blocks_left, same_files, files_given}
use Rattle.cluster_core.proofs.RoomGo.{writer_is}
use Rattle.std.specs.Prelude.{IsSome}
use Rattle.inode_tree.specs.Rows.{file_row}
use Rattle.fs_model.specs.BytesEvents.{writer_stands}
use Rattle.cluster_core.proofs.LostBlock.{lost_known, lost_rows, lost_leaves, lost_nodes, lost_rose, lost_tier}
use Rattle.cluster_core.proofs.AreaFacts.{areas_known}

module _ {D S R W : Type 0} {d : disks.Ghosts D} (o : objects.Ghosts S R W) (r : reads.Ghosts R) (w : writes.Ghosts W) (was new : Core D S R W d w) (l : Label) (i : ℕ) (within : i < 64) (x : Writer W) (whole : x.broken ≡ false) (U : Setup) (V : Whole) (s : Stands d o r w U was V) (m : machine.Writer) (at : hand_at (hands_of V (suc i)) l ≡ Some (machine.Hand.Writing m)) (f : WriterFits w s.known was.workers.items was.master.kept.names.next_id was.block (suc i, l) m x) (rest : KeepsRest was new) (passes : room_test was.master was.workers.items was.block x ≡ None) (wanted : wants_room x.bytes ≡ true) where
  -- the worker's node
  node_of : (x' : Option (Node S)) → by_node (λ n. n.running && nat_eq n.started x.started) x' ≡ true → (a : Node S) × (x' ≡ Some a)
  node_of None h = absurd (cc)
  node_of (Some a) h = (a, refl)

  at_place : x.worker ≡ suc (pred x.worker)
  at_place = behind x.worker f.placed

  runs_it : runs_here was.workers.items x.worker x.started ≡ true
  runs_it = runs o r w was new l i within x whole U V s m at f rest passes wanted

  node_there : (a : Node S) × (slice_get was.workers.items (pred x.worker) ≡ Some a)
  node_there = node_of (slice_get was.workers.items (pred x.worker)) (ap (by_node (λ n. n.running && nat_eq n.started x.started)) (sym (at_suc was.workers.items (pred x.worker))) ∙ ap (λ k. runs_here was.workers.items k x.started) (sym at_place) ∙ runs_it)

  -- what a commit leaves of the worker, for the next block
  record Between (a b : Node S) : Type 0 where
    number : b.book.next ≡ a.book.next
    none : (len : ℕ) → fitting b.book len ≡ None → fitting a.book len ≡ None
    less : NoLess o a b
    tiers : length b.tiers.items ≡ length a.tiers.items

  between_same : (a b : Node S) → b ≡ a → Between a b
  between_same a b same = subst (Between a) (sym same) (record { number = refl; none = λ len h. h; less = same_no_less o a a refl; tiers = refl })

  module _ (mid : List (Node S)) (commits : (n : ℕ) (pen : W) → x.room ≡ Some n → block_writer x.bytes ≡ Some pen → ChangesAt was.workers.items mid (pred x.worker) (Commits o w n (key_at was.workers.items x.worker n) pen (finished_of was.master.kept.names.nodes was.block x))) (kept : x.room ≡ None → mid ≡ was.workers.items) where
    parts : AfterCommit o U V.body m s.known (without_owner x.worker x.room s.known) (suc i, l) was.workers.items mid was.master.kept.names.next_id was.block was.master.journal.limit
    parts = committed o r w was new l i within x whole U V s m at f rest passes wanted mid commits kept

    between_by : (e : Option ℕ) → x.room ≡ e → (a b : Node S) → slice_get was.workers.items (pred x.worker) ≡ Some a → slice_get mid (pred x.worker) ≡ Some b → Between a b
    between_by None none a b was_there there = between_same a b (same_Some b a (sym there ∙ ap (λ ns. slice_get ns (pred x.worker)) (kept none) ∙ was_there))
    between_by (Some n) reserved a b was_there there =
        let k = known o w s.known was.master was.workers.items was.block (suc i, l) m x f whole was.blocks was.small n reserved in
        let change = commits n k.3 reserved k.4 in
        let both = both_there (slice_get was.workers.items (pred x.worker)) (slice_get mid (pred x.worker)) change.at in
        let first : both.0 ≡ a = same_Some both.0 a (sym both.2 ∙ was_there) in
        let second : both.1 ≡ b = same_Some both.1 b (sym both.3 ∙ there) in
        let q = room_there o w s.known s.known was.master was.workers.items mid was.block was.master.journal.limit i l m x f whole was.blocks was.small U V.body s.names s.workers s.setup s.objects V.body.contents s.files.each (stands o r w was new l i within x whole U V s m at f rest passes wanted) runs_it (file o r w was new l i within x whole U V s m at f rest passes wanted) n reserved both.0 both.2 in
        let fits : (finished_of was.master.kept.names.nodes was.block x).len ≤ q.0.bytes = subst (λ z. (finished_of was.master.kept.names.nodes was.block x).len ≤ z) (sym q.2) (within_block o w s.known was.master was.workers.items was.block (suc i, l) m x f whole was.blocks was.small n reserved) in
        subst (λ z. Between z b) first (subst (Between both.0) second (record {
          number = number_committed o w n (key_at was.workers.items x.worker n) k.3 (finished_of was.master.kept.names.nodes was.block x) both.0 both.1 q.0 q.1 fits both.4;
          none = none_before o w n (key_at was.workers.items x.worker n) k.3 (finished_of was.master.kept.names.nodes was.block x) both.0 both.1 q.0 q.1 fits both.4;
          less = commit_no_less o w n (key_at was.workers.items x.worker n) k.3 (finished_of was.master.kept.names.nodes was.block x) both.0 both.1 q.0 q.1 fits both.4;
          tiers = both.1.sized ∙ ap length both.4.sizes ∙ sym both.0.sized;
        }))

    between : (b : Node S) → slice_get mid (pred x.worker) ≡ Some b → Between node_there.0 b
    between b there = between_by x.room refl node_there.0 b node_there.1 there

    -- some tier has room still
    pub not_full : (b c : Node S) → slice_get mid (pred x.worker) ≡ Some b → fitting b.book x.bytes.bs ≡ None → ⊥
    not_full b c there none =
        let gone : fitting node_there.0.book x.bytes.bs ≡ None = (between b there).none x.bytes.bs none in
        let lacks = room_left o r w was new l i within x whole U V s m at f rest passes wanted in
        let node : at_number was.workers.items x.worker ≡ Some node_there.0 = ap (at_number was.workers.items) at_place ∙ at_suc was.workers.items (pred x.worker) ∙ node_there.1 in
        let full : (wants_room x.bytes && lacks_room x.bytes.bs (at_number was.workers.items x.worker)) ≡ true = ap₂ (λ b y. b && lacks_room x.bytes.bs y) wanted node ∙ ap is_none gone in
        let never : true ≡ false = sym full ∙ lacks in
        cc

    -- a number is left for the next block
    pub numbers : (b : Node S) → slice_get mid (pred x.worker) ≡ Some b → b.book.next < 2 ^ 63
    numbers b there =
        let left = numbers_left o r w was new l i within x whole U V s m at f rest passes wanted in
        let node : at_number was.workers.items x.worker ≡ Some node_there.0 = ap (at_number was.workers.items) at_place ∙ at_suc was.workers.items (pred x.worker) ∙ node_there.1 in
        let few : nat_le (2 ^ 63) node_there.0.book.next ≡ false = sym (ap₂ (λ b y. b && nat_le (2 ^ 63) (next_of y)) wanted node) ∙ left in
        let less : node_there.0.book.next < 2 ^ 63 = leb-false (2 ^ 63) node_there.0.book.next few in
        subst (λ k. k < 2 ^ 63) (sym (between b there).number) less

    -- the count of a tier rose where it did after the commit
    pub rose_since : (t : ℕ) → ChangesAt mid new.workers.items (pred x.worker) (RoseAt o t) → TierRose o r w was new x.worker t
    rose_since t change =
        let both = both_there (slice_get mid (pred x.worker)) (slice_get new.workers.items (pred x.worker)) change.at in
        let k = between both.0 both.2 in
        let rose = rose_later o t node_there.0 both.0 both.1 k.tiers k.less both.4 in
        subst (λ y. IsSomeAnd y (λ n. IsSomeAnd (slice_get new.workers.items (pred x.worker)) (λ q. RoseAt o t n q))) (sym node_there.1) (subst (λ y. IsSomeAnd y (λ q. RoseAt o t node_there.0 q)) (sym both.3) rose)

    -- ---- the next block is open

    abbrev opened_known : ℕ → Knowledge
    opened_known k = with_owner (suc (pred x.worker)) k (Some (suc i, l)) (without_owner x.worker x.room s.known)

    module _ (k : ℕ) (change : ChangesAt mid new.workers.items (pred x.worker) (Spaces o k x.bytes.bs)) where
      -- the worker's node before and after
      nodes_at : (b : Node S) × (c : Node S) × (slice_get mid (pred x.worker) ≡ Some b) × (slice_get new.workers.items (pred x.worker) ≡ Some c) × Spaces o k x.bytes.bs b c
      nodes_at = both_there (slice_get mid (pred x.worker)) (slice_get new.workers.items (pred x.worker)) change.at

      tier_of : (y : Option ℕ) → IsSomeAnd y (λ t. HasSpace nodes_at.0 nodes_at.1 x.bytes.bs k t × ChangesAt nodes_at.0.tiers.items nodes_at.1.tiers.items t (Keeps o)) → (t : ℕ) × (y ≡ Some t) × HasSpace nodes_at.0 nodes_at.1 x.bytes.bs k t × ChangesAt nodes_at.0.tiers.items nodes_at.1.tiers.items t (Keeps o)
      tier_of None h = absurd h
      tier_of (Some t) h = (t, refl, h.0, h.1)

      -- the tier, and what changed there
      tier : (t : ℕ) × (fitting nodes_at.0.book x.bytes.bs ≡ Some t) × HasSpace nodes_at.0 nodes_at.1 x.bytes.bs k t × ChangesAt nodes_at.0.tiers.items nodes_at.1.tiers.items t (Keeps o)
      tier = tier_of (fitting nodes_at.0.book x.bytes.bs) nodes_at.4

      few : nodes_at.0.book.next < 2 ^ 63
      few = numbers nodes_at.0 nodes_at.2

      -- the same change, said of these two alone
      mine : ChangesAt mid new.workers.items (pred x.worker) (λ a b. (a ≡ nodes_at.0) × (b ≡ nodes_at.1))
      mine = changes_exactly mid new.workers.items (pred x.worker) change nodes_at.0 nodes_at.1 nodes_at.2 nodes_at.3

      rows : ChangesAt mid new.workers.items (pred x.worker) (RowChanges (with_room tier.0 [] x.bytes.bs))
      rows = changes_by mid new.workers.items (pred x.worker) mine (λ a b h. subst (λ z. RowChanges (with_room tier.0 [] x.bytes.bs) z b) (sym h.0) (subst (RowChanges (with_room tier.0 [] x.bytes.bs) nodes_at.0) (sym h.1) (row_spaced o k x.bytes.bs tier.0 nodes_at.0 nodes_at.1 tier.2 tier.3 few)))

      -- the machine's body after it
      abbrev A1 : State
      A1 = close_block U V.body m

      number_is : (worker A1 m.worker).next ≡ k
      number_is =
          ap (λ v. (worker A1 v).next) (f.worker ∙ at_place)
          ∙ next_is o U A1 mid parts.workers was.block was.master.journal.limit parts.setup (pred x.worker)
          ∙ ap next_of nodes_at.2
          ∙ sym tier.2.number

      placed_there : placed U A1 m.worker None m.bs ≡ Some (tier.0, [])
      placed_there = ap₂ (λ v n. placed U A1 v None n) (f.worker ∙ at_place) (f.bs ∙ sym f.blocks) ∙ placed_is o U A1 mid parts.workers was.block was.master.journal.limit parts.setup (pred x.worker) nodes_at.0 nodes_at.2 x.bytes.bs tier.0 tier.1

      takes : take_room (placed U A1 m.worker None m.bs) m.worker m.bs A1 ≡ change_worker m.worker (with_room tier.0 [] x.bytes.bs) A1
      takes = ap₂ (λ p n. take_room p m.worker n A1) placed_there (f.bs ∙ sym f.blocks)

      workers_after : WorkersStand new.workers.items (take_room (placed U A1 m.worker None m.bs) m.worker m.bs A1)
      workers_after = subst (WorkersStand new.workers.items) (sym takes) (workers_change (with_room tier.0 [] x.bytes.bs) mid new.workers.items m.worker (subst (λ v. ChangesAt mid new.workers.items (pred v) (RowChanges (with_room tier.0 [] x.bytes.bs))) (sym f.worker) rows) A1 parts.workers)

      nodes_after : NodesStand o (opened_known k) was.master.kept.names.next_id was.block new.workers.items
      nodes_after = nodes_spaced o (without_owner x.worker x.room s.known) was.master.kept.names.next_id was.block k (pred x.worker) (suc i, l) mid new.workers.items (λ a b. (a ≡ nodes_at.0) × (b ≡ nodes_at.1)) mine (λ a b h e. subst (NodeStands o (opened_known k) was.master.kept.names.next_id was.block (suc (pred x.worker))) (sym e.1) (node_spaced o k x.bytes.bs tier.0 nodes_at.0 nodes_at.1 tier.2 tier.3 few (without_owner x.worker x.room s.known) was.master.kept.names.next_id was.block (suc (pred x.worker)) (suc i, l) (subst (NodeStands o (without_owner x.worker x.room s.known) was.master.kept.names.next_id was.block (suc (pred x.worker))) e.0 h))) parts.nodes_stand

      node_stands : NodeStands o (without_owner x.worker x.room s.known) was.master.kept.names.next_id was.block (suc (pred x.worker)) nodes_at.0
      node_stands = parts.nodes_stand (pred x.worker) nodes_at.0 nodes_at.2

      -- nobody had the number
      nobody : (without_owner x.worker x.room s.known).owner (suc (pred x.worker)) k ≡ None
      nobody = node_stands.fresh k (let h = tier.2.number in omega (arith, h))

      -- what others rest on, over both changes
      leaves_after : Leaves (suc i, l) s.known (opened_known k) was.workers.items new.workers.items was.master.kept.names.next_id was.master.kept.names.next_id
      leaves_after = record {
        later = omega arith;
        files = parts.leaves.files;
        owners = λ v n b h other.
            let first = parts.leaves.owners v n b h other in
            ap (λ c. cond c (Some (suc i, l)) ((without_owner x.worker x.room s.known).owner v n)) (not_both (suc (pred x.worker)) v k n (λ e d. let q : Some b ≡ None = sym first ∙ ap₂ (without_owner x.worker x.room s.known).owner e d ∙ nobody in absurd (cc))) ∙ first;
        rooms = λ v started n bytes b h other there.
            rooms_leave (without_owner x.worker x.room s.known) (suc i, l) mid new.workers.items (suc (pred x.worker)) k (λ e. omega (arith, e)) (changes_by mid new.workers.items (pred x.worker) mine (λ a c e. subst (λ z. KeepsRooms k z c) (sym e.0) (subst (KeepsRooms k nodes_at.0) (sym e.1) (rooms_spaced o k x.bytes.bs tier.0 nodes_at.0 nodes_at.1 tier.2 tier.3 few)))) (λ d q other. let z : Some d ≡ None = sym q ∙ nobody in absurd (cc)) v started n bytes b (parts.leaves.owners v n b h other) other (parts.leaves.rooms v started n bytes b h other there);
      }

      module _ (y : Writer W) (reserved : y.room ≡ Some k) (opens : OpensBlock w (closed_writer false x) y) (tells : IsSomeAnd (slice_get mid (pred x.worker)) (TellsAt o x.bytes.bs (block_writer y.bytes) w)) (has : (bytes : List ℕ) → HasTaken w (closed_bytes x.room x.bytes) bytes → HasTaken w y.bytes bytes) (hands : ChangesAt was.hands.items new.hands.items i (SetsHand l (Hand.Writing x) (Hand.Writing y))) where
        -- the writer on the machine's side
        abbrev next_writer : machine.Writer
        next_writer = opened m m.kind (Some (worker A1 m.worker).next)

        size_is : y.bytes.bs ≡ x.bytes.bs
        size_is = ap (λ z. z.bs) opens.bytes ∙ size_by x.room x.bytes
          where
            size_by : (e : Option ℕ) (z : Writing W) → (closed_bytes e z).bs ≡ z.bs
            size_by None z = refl
            size_by (Some n) z = refl

        there_room : HasRoomOf new.workers.items x.worker x.started k was.block
        there_room =
            let room : room_numbered k nodes_at.1.book.rooms ≡ Some (record { number = k; tier = tier.0; bytes = x.bytes.bs }) = ap (room_numbered k) tier.2.rooms ∙ found_last k (record { number = k; tier = tier.0; bytes = x.bytes.bs }) nodes_at.0.book.rooms (subst (λ z. All (λ q. q.number < z) nodes_at.0.book.rooms) (sym tier.2.number) node_stands.rooms) refl in
            subst (λ z. IsSomeAnd z (λ node. node.started ≡ x.started → IsSomeAnd (room_numbered k node.book.rooms) (λ q. q.bytes ≡ was.block))) (sym (ap (at_number new.workers.items) at_place ∙ at_suc new.workers.items (pred x.worker) ∙ nodes_at.3)) (λ _. subst (λ z. IsSomeAnd z (λ q. q.bytes ≡ was.block)) (sym room) f.blocks)

        fits_next : WriterFits w (opened_known k) new.workers.items was.master.kept.names.next_id was.block (suc i, l) next_writer y
        fits_next =
            let known = same_files s.known x.room x.worker m.file in
            record {
              file = f.file ∙ sym (ap (λ z. z.file) opens.fields);
              bs = f.bs;
              blocks = size_is ∙ f.blocks;
              placed = subst (λ v. 0 < v) (sym (ap (λ z. z.worker) opens.fields)) f.placed;
              kind = f.kind;
              worker = f.worker ∙ sym (ap (λ z. z.worker) opens.fields);
              start = f.start ∙ sym (ap (λ z. z.started) opens.fields);
              broken = f.broken ∙ sym (ap (λ z. z.broken) opens.fields);
              room = ap Some number_is ∙ sym reserved;
              short = let q : length m.taken + was.block ≤ 65536 * was.block = one_more (length m.taken) was.block was.blocks (ap (λ n. nat_le 65536 (block_count n was.block)) (len_is o w U V.body was.master was.workers.items was.block was.master.journal.limit was.master.kept.names.next_id s.known (suc i, l) s.names s.workers s.setup s.objects was.small m x f whole) ∙ sym (ap (λ b. b && nat_le 65536 (block_count x.bytes.len was.block)) wanted) ∙ blocks_left o r w was new l i within x whole U V s m at f rest passes wanted) in omega (arith, q);
              on = λ _. record {
                block = (λ j. let z : Option OpenBlock = Some (record { room = Some (number_is j); len = 0 }) in z) ∙ empty_block w k y.bytes.block opens.empty ∙ ap (λ e. open_of e y.bytes.block) (sym reserved);
                taken = has m.taken (closed_taken w x.room x.bytes m.taken (f.on whole).taken);
                within = empty_within w y.bytes.bs y.bytes.block opens.empty;
                tells = block_tells_at w o x.bytes.bs tier.0 nodes_at.0 y.bytes tier.1 (subst (λ z. IsSomeAnd z (TellsAt o x.bytes.bs (block_writer y.bytes) w)) nodes_at.2 tells) (node_stands.tells tier.0) ∙ sym (ap is_some reserved);
                wants = λ none. let z : ◌≡◌ {A = Option ℕ} (Some k) None = sym reserved ∙ none in absurd (cc);
                alone = no_object w (closed_bytes x.room x.bytes).object y.bytes.object (closed_alone w x.room x.bytes ∙ (f.on whole).alone) opens.object;
              };
              reserved = subst (λ e. IfSome e (λ n. ((opened_known k).owner y.worker n ≡ Some (suc i, l)) × HasRoomOf new.workers.items y.worker y.started n was.block)) (sym reserved) (owner_is, subst (λ v. HasRoomOf new.workers.items v y.started k was.block) (sym (ap (λ z. z.worker) opens.fields)) (subst (λ v. HasRoomOf new.workers.items x.worker v k was.block) (sym (ap (λ z. z.started) opens.fields)) there_room));
              old = f.old;
              bytes = known.0 ∙ f.bytes;
              author = inl (known.1 ∙ writes_whole s.known m.file (suc i, l) x.broken f.author whole);
            }
          where
            owner_is : (opened_known k).owner y.worker k ≡ Some (suc i, l)
            owner_is = ap (λ v. (opened_known k).owner v k) (ap (λ z. z.worker) opens.fields ∙ at_place) ∙ ap₂ (λ b c. cond (b && c) (Some (suc i, l)) ((without_owner x.worker x.room s.known).owner (suc (pred x.worker)) k)) (eq-eqb (suc (pred x.worker)) (suc (pred x.worker)) refl) (eq-eqb k k refl)

        pub room_opened : Goes d o r w U was new V (suc i) (Event.Room l) Reply.Done
        room_opened =
            let H = hands_of V (suc i) in
            let B = take_room (placed U A1 m.worker None m.bs) m.worker m.bs A1 in
            let G = set_hand l (machine.Hand.Writing next_writer) H in
            let after = put_back V (suc i) B G in
            let done : ◌≡◌ {A = Outcome} (Reply.Done, B, G) (accepted U (fault_free 0) V.body H (suc i) (Event.Room l)) =
            sym (ap (λ z. with_reply Reply.Done (room_by U V.body H l z)) (writer_is o r w was l i within x whole U V s m at f) ∙ ap (λ b. with_reply Reply.Done (room_if b U V.body H l m)) (wants o r w was new l i within x whole U V s m at f rest passes wanted) ∙ ap (λ t. with_reply Reply.Done (open_cached_if (opens_cached U A1 m t) U A1 H l m)) f.kind) in
            record {
              after = after;
              rise = no_rise;
              made = None;
              stands = stands_by o r w U new after (opened_known k) was.block was.master.journal.limit was.master new.workers.items new.hands.items rest.block (ap (λ k. k.journal.limit) rest.master) rest.master refl refl (record {
                setup = setup_stays (with_room tier.0 [] x.bytes.bs) mid new.workers.items x.worker rows parts.setup;
                named = record { names = s.names.names; gate = s.names.gate; generation = s.names.generation; fuse = s.names.fuse; down = s.names.down; unlocked = s.names.unlocked; unseen = s.names.unseen };
                areas = areas_known d s.known (opened_known k) V.body.contents was.block was.master V.body.names V.body.master (λ id few none. ((same_files s.known x.room x.worker id).0, (same_files s.known x.room x.worker id).1 ∙ none)) s.areas;
                workers = record { rows = workers_after.rows; registrations = workers_after.registrations; first = workers_after.first; one = workers_after.one };
                hands = hands_set r w s.known (opened_known k) was.workers.items new.workers.items was.master.kept.names.next_id was.master.kept.names.next_id was.block i l leaves_after V.hands was.hands.items new.hands.items s.hands within (Hand.Writing x) (Hand.Writing y) (machine.Hand.Writing m) (machine.Hand.Writing next_writer) at hands fits_next;
                files = files_given (without_owner x.worker x.room s.known) (suc (pred x.worker)) k (suc i, l) was.master.kept.names.next_id was.block was.master.kept.names.nodes V.body.contents (files_owned s.known x.room x.worker was.master.kept.names.next_id was.block was.master.kept.names.nodes V.body.contents s.files);
                objects = nodes_after;
              });
              rises = Rises.Nothing;
              step = record {
                body = B;
                hands = G;
                step = Step.Accepted (fault_free 0) (no_refusal o r w was new l i within x whole U V s m at f rest passes wanted) refl (serves_none V.body.master.fuse) refl done refl;
                after = refl;
              };
            }

    -- ---- the worker got no reservation

    -- the parts stay where the worker has what it had
    pub parts_kept : (len : ℕ) → ChangesAt mid new.workers.items (pred x.worker) (KeepsNode o len) → AfterCommit o U V.body m s.known (without_owner x.worker x.room s.known) (suc i, l) was.workers.items new.workers.items was.master.kept.names.next_id was.block was.master.journal.limit
    parts_kept len change =
        let rows : ChangesAt mid new.workers.items (pred x.worker) (RowChanges (λ k. k)) = changes_by mid new.workers.items (pred x.worker) change (λ a b c. row_kept o len a b c) in
        record {
          workers = subst (WorkersStand new.workers.items) (λ j. record (close_block U V.body m) { workers = set-get_or (close_block U V.body m).workers (pred x.worker) no_worker j }) (workers_change (λ k. k) mid new.workers.items x.worker rows (close_block U V.body m) parts.workers);
          setup = setup_stays (λ k. k) mid new.workers.items x.worker rows parts.setup;
          nodes_stand = nodes_change o (without_owner x.worker x.room s.known) (without_owner x.worker x.room s.known) was.master.kept.names.next_id was.master.kept.names.next_id was.block (known_all (without_owner x.worker x.room s.known) was.master.kept.names.next_id) mid new.workers.items (pred x.worker) (KeepsNode o len) change (λ v a b h c. node_kept o (without_owner x.worker x.room s.known) was.master.kept.names.next_id was.block v len a b c h) parts.nodes_stand;
          leaves = record {
            later = omega arith;
            files = parts.leaves.files;
            owners = parts.leaves.owners;
            rooms = λ v started n bytes b h other there. kept_rooms len change v started n bytes (parts.leaves.rooms v started n bytes b h other there);
          };
        }
      where
        in_node : (n started bytes : ℕ) (y z : Option (Node S)) → IsSomeAnd y (λ a. IsSomeAnd z (λ b. KeepsNode o len a b)) → IsSomeAnd y (λ node. node.started ≡ started → IsSomeAnd (room_numbered n node.book.rooms) (λ q. q.bytes ≡ bytes)) → IsSomeAnd z (λ node. node.started ≡ started → IsSomeAnd (room_numbered n node.book.rooms) (λ q. q.bytes ≡ bytes))
        in_node n started bytes None z c h = absurd c
        in_node n started bytes (Some a) None c h = absurd c
        in_node n started bytes (Some a) (Some b) c h = λ is. subst (λ k. IsSomeAnd (room_numbered n k.rooms) (λ q. q.bytes ≡ bytes)) (sym c.0.book) (h (sym c.0.started ∙ is))

        kept_rooms : (len' : ℕ) → ChangesAt mid new.workers.items (pred x.worker) (KeepsNode o len) → (v started n bytes : ℕ) → HasRoomOf mid v started n bytes → HasRoomOf new.workers.items v started n bytes
        kept_rooms len' change zero started n bytes there = absurd there
        kept_rooms len' change (suc v) started n bytes there =
            let P : Node S → Type 0 = λ node. node.started ≡ started → IsSomeAnd (room_numbered n node.book.rooms) (λ q. q.bytes ≡ bytes) in
            let mine : IsSomeAnd (slice_get mid v) P = subst (λ y. IsSomeAnd y P) (at_suc mid v) there in
            subst (λ y. IsSomeAnd y P) (sym (at_suc new.workers.items v)) (elim (cases_eq v (pred x.worker)) [
              | inl here ↦ in_node n started bytes (slice_get mid v) (slice_get new.workers.items v) (subst (λ j. IsSomeAnd (slice_get mid j) (λ a. IsSomeAnd (slice_get new.workers.items j) (λ b. KeepsNode o len a b))) (sym here) change.at) mine
              | inr away ↦ subst (λ y. IsSomeAnd y P) (sym (change.others v away)) mine
            ])

  -- ---- the commit failed

  module _ (n : ℕ) (reserved : x.room ≡ Some n) (lost : (pen : W) → block_writer x.bytes ≡ Some pen → ChangesAt was.workers.items new.workers.items (pred x.worker) (Loses o w n (key_at was.workers.items x.worker n) pen (finished_of was.master.kept.names.nodes was.block x))) where
    it_stands : writer_stands V.body m ≡ true
    it_stands = stands o r w was new l i within x whole U V s m at f rest passes wanted

    its_file : IsSome (file_row was.master.kept.names.nodes x.file)
    its_file = file o r w was new l i within x whole U V s m at f rest passes wanted

    pub room_lost : ChangesAt was.hands.items new.hands.items i (SetsHand l (Hand.Writing x) (Hand.Writing (closed_writer true x))) → Goes d o r w U was new V (suc i) (Event.Room l) (Reply.Refused (Refusal.TierFault x.worker))
    room_lost hands =
        let H = hands_of V (suc i) in
        let B = change_worker m.worker (room_to_litter n) V.body in
        let k : machine.Writer = record m { broken = true; block = None } in
        let G = set_hand l (machine.Hand.Writing k) H in
        let after = put_back V (suc i) B G in
        let there = stands o r w was new l i within x whole U V s m at f rest passes wanted in
        let workers = workers_change (room_to_litter n) was.workers.items new.workers.items m.worker (lost_rows o r w was new l i x whole U V s m f it_stands runs_it its_file n reserved lost) V.body s.workers in
        let shut = open_is o w s.known was.master was.workers.items was.block (suc i, l) m x f whole was.blocks was.small n reserved in
        record {
          after = after;
          rise = tier_rise x.worker;
          made = None;
          stands = stands_by o r w U new after (lost_known o r w was new l i x whole U V s m f it_stands runs_it its_file n reserved lost) was.block was.master.journal.limit was.master new.workers.items new.hands.items rest.block (ap (λ k. k.journal.limit) rest.master) rest.master refl refl (record {
            setup = setup_stays (room_to_litter n) was.workers.items new.workers.items m.worker (lost_rows o r w was new l i x whole U V s m f it_stands runs_it its_file n reserved lost) s.setup;
            named = record { names = s.names.names; gate = s.names.gate; generation = s.names.generation; fuse = s.names.fuse; down = s.names.down; unlocked = s.names.unlocked; unseen = s.names.unseen };
            areas = areas_known d s.known (lost_known o r w was new l i x whole U V s m f it_stands runs_it its_file n reserved lost) V.body.contents was.block was.master V.body.names V.body.master (λ id few none. (refl, none)) s.areas;
            workers = record { rows = workers.rows; registrations = workers.registrations; first = workers.first; one = workers.one };
            hands = hands_set r w s.known (lost_known o r w was new l i x whole U V s m f it_stands runs_it its_file n reserved lost) was.workers.items new.workers.items was.master.kept.names.next_id was.master.kept.names.next_id was.block i l (lost_leaves o r w was new l i x whole U V s m f it_stands runs_it its_file n reserved lost) V.hands was.hands.items new.hands.items s.hands within (Hand.Writing x) (Hand.Writing (closed_writer true x)) (machine.Hand.Writing m) (machine.Hand.Writing k) at hands (broken_fits w s.known (lost_known o r w was new l i x whole U V s m f it_stands runs_it its_file n reserved lost) was.workers.items new.workers.items was.master.kept.names.next_id was.block (suc i, l) m x f whole refl refl);
            files = files_owned s.known (Some n) x.worker was.master.kept.names.next_id was.block was.master.kept.names.nodes V.body.contents s.files;
            objects = (lost_nodes o r w was new l i x whole U V s m f it_stands runs_it its_file n reserved lost);
          });
          rises = Rises.OfTier x.worker (lost_tier o r w was new l i x whole U V s m f it_stands runs_it its_file n reserved lost) (lost_rose o r w was new l i x whole U V s m f it_stands runs_it its_file n reserved lost);
          step = record {
            body = B;
            hands = G;
            step = Step.Failed (begun_as BlockFate.IsLitter) (no_refusal o r w was new l i within x whole U V s m at f rest passes wanted) (may o r w was new l i within x whole U V s m at f rest passes wanted (begun_as BlockFate.IsLitter)) (sym (ap (writer_after_fault U (begun_as BlockFate.IsLitter) V.body H l) (writer_is o r w was l i within x whole U V s m at f) ∙ (λ j. let q : BodyAndHands = (litter_left U V.body m there n _ shut j, set_hand l (machine.Hand.Writing (left_by U V.body m there BlockFate.IsLitter j)) H) in q))) refl;
            after = refl;
          };
        }
