-- What a core stands by once a writer's open block is committed.
use Rattle.std.proofs.Common.{◌≡◌, ℕ, suc, pred, ◌<◌, ◌≤◌, ◌^◌, Bool, true, false, ◌&&◌, List, nat_eq, Option, Some, None, is_some, refl, sym, ap, ◌∙◌, subst, arith}
use Rattle.std.specs.Prelude.{IsSome, IsSomeAnd, IfSome, slice_get, option_map}
use Rattle.fs_model.specs.declared.setup.Setup.{Setup}
use Rattle.fs_model.specs.declared.reply.Stored.{Stored}
use Rattle.fs_model.specs.State as machine
use Rattle.fs_model.specs.State.{State, Worker, NodeRow, Node as machineNode, Content, RoomRow}
use Rattle.fs_model.specs.Lookups.{at_number, id_is}
use Rattle.fs_model.specs.Updates.{change_worker}
use Rattle.fs_model.specs.BytesEvents.{writer_stands}
use Rattle.fs_model.specs.BytesOutcomes.{close_block}
use Rattle.inode_tree.specs.Rows.{file_row}
use Rattle.outside.specs.declared.objects.Objects as objects
use Rattle.outside.specs.declared.objects.ObjectWrite as writes
use Rattle.tier_book.specs.Rows.{room_numbered}
use Rattle.file_writer.specs.Writing.{block_writer}
use Rattle.cluster_core.specs.declared.node.Node.{Node}
use Rattle.cluster_core.specs.declared.hand.Writer.{Writer}
use Rattle.master_node.specs.Mastering.{Mastering}
use Rattle.cluster_core.specs.NamesStand.{NamesStand}
use Rattle.cluster_core.specs.Nodes.{commit_as}
use Rattle.cluster_core.specs.Tiers.{ChangesAt, object_key}
use Rattle.cluster_core.specs.Here.{by_node, runs_here}
use Rattle.cluster_core.specs.Knowledge.{Knowledge, Holder, HasRoomOf, Leaves, with_owner}
use Rattle.cluster_core.specs.HandFits.{WriterFits}
use Rattle.cluster_core.specs.Stands.{WorkersStand, SetupFits, NodesStand, NodeStands, FileFits}
use Rattle.cluster_core.specs.Writers.{Commits, open_len}
use Rattle.cluster_core.specs.Committed.{finished_of, keeps, file_node, key_at, started_of}
use Rattle.cluster_core.proofs.HandStays.{some_same}
use Rattle.cluster_core.proofs.Frames.{KnownOn, nodes_change_there}
use Rattle.cluster_core.proofs.NodeChanges.{RowChanges, changes_there, workers_change, setup_at}
use Rattle.cluster_core.proofs.RoomChanges.{KeepsRooms, rooms_leave, at_suc}
use Rattle.std.proofs.lemmas.Bool.{eqb-true}
use Rattle.cluster_core.proofs.RoomTests.{behind}
use Rattle.cluster_core.proofs.Rows.{found_of_all}
use Rattle.cluster_core.proofs.CommitNode.{node_committed, row_committed, rooms_committed}
use Rattle.cluster_core.proofs.CommitGo.{known, bytes, within_block, object_fits, closes}
use Rattle.std.specs.List.{All}

-- what is known once a reservation belongs to no label any more, if there was one
abbrev pub without_owner : ℕ → Option ℕ → Knowledge → Knowledge
without_owner v None K = K
without_owner v (Some n) K = with_owner v n None K

-- a file that must be kept
pub must_keep : (K : Knowledge) (contents : List Content) (next bs : ℕ) (rows : List NodeRow) (id : ℕ) → All (FileFits K contents next bs) rows → IsSome (file_row rows id) → keeps (file_node rows id) ≡ true
must_keep K contents next bs rows id all there = of_row (file_row rows id) refl there
  where
    by_row : (q : NodeRow) → FileFits K contents next bs q → id_is id q.1 ≡ true → keeps (Some q.1) ≡ true
    by_row (p, machineNode.Directory) f is = absurd (cc)
    by_row (p, machineNode.IsFile g) f is = ap (λ (t : Stored). keeps (Some (machineNode.IsFile (record g { stored = t })))) f.1

    of_row : (y : Option NodeRow) → file_row rows id ≡ y → IsSome y → keeps (option_map (λ (q : NodeRow). q.1) y) ≡ true
    of_row None is there = absurd (cc)
    of_row (Some q) is there = let found = found_of_all (FileFits K contents next bs) (λ (c : NodeRow). id_is id c.1) rows q all is in by_row q found.0 found.1

module _ {D S R W : Type 0} (o : objects.Ghosts S R W) (w : writes.Ghosts W) (K N : Knowledge) (master : Mastering D) (nodes mid : List (Node S)) (bs area : ℕ) (i : ℕ) (l : List ℕ) (m : machine.Writer) (x : Writer W) (f : WriterFits w K nodes master.kept.names.next_id bs (suc i, l) m x) (whole : x.broken ≡ false) (some : 0 < bs) (small : bs < 2 ^ 32) (U : Setup) (A : State) (named : NamesStand master A) (workers : WorkersStand nodes A) (setup : SetupFits U bs area nodes) (stand : NodesStand o K master.kept.names.next_id bs nodes) (contents : List Content) (files : All (FileFits K contents master.kept.names.next_id bs) master.kept.names.nodes) (stands : writer_stands A m ≡ true) (runs : runs_here nodes x.worker x.started ≡ true) (file : IsSome (file_row master.kept.names.nodes x.file)) where
  -- its worker, by the place
  pub some_worker : x.worker ≡ 0 → ⊥
  some_worker none = let k = f.placed in absurd (omega (arith, k, none))

  at_place : x.worker ≡ suc (pred x.worker)
  at_place = behind x.worker f.placed

  second_is : (b c : Bool) → (b && c) ≡ true → c ≡ true
  second_is true c h = h
  second_is false c h = absurd (cc)

  -- it was started as often as the writer knows
  started_there : (node : Node S) → slice_get nodes (pred x.worker) ≡ Some node → node.started ≡ x.started
  started_there node there =
      let v = pred x.worker in
      let at : by_node (λ n. n.running && nat_eq n.started x.started) (Some node) ≡ true = ap (by_node (λ n. n.running && nat_eq n.started x.started)) (sym there ∙ sym (at_suc nodes v)) ∙ ap (λ k. runs_here nodes k x.started) (sym at_place) ∙ runs in
      eqb-true node.started x.started (second_is node.running (nat_eq node.started x.started) at)

  of_room : (y : Option RoomRow) → IsSomeAnd y (λ q. q.bytes ≡ bs) → (q : RoomRow) × (y ≡ Some q) × (q.bytes ≡ bs)
  of_room None h = absurd h
  of_room (Some q) h = (q, refl, h)

  -- the reservation is there, and has room for a block
  pub room_there : (n : ℕ) → x.room ≡ Some n → (node : Node S) → slice_get nodes (pred x.worker) ≡ Some node → (q : RoomRow) × (room_numbered n node.book.rooms ≡ Some q) × (q.bytes ≡ bs)
  room_there n reserved node there =
      let mine = (subst (λ y. IfSome y (λ k. (K.owner x.worker k ≡ Some (suc i, l)) × HasRoomOf nodes x.worker x.started k bs)) reserved f.reserved).1 in
      let at = subst (λ y. IsSomeAnd y (λ k. k.started ≡ x.started → IsSomeAnd (room_numbered n k.book.rooms) (λ q. q.bytes ≡ bs))) (ap (at_number nodes) at_place ∙ at_suc nodes (pred x.worker) ∙ there) mine in
      of_room (room_numbered n node.book.rooms) (at (started_there node there))

  pub owned : (n : ℕ) → x.room ≡ Some n → K.owner x.worker n ≡ Some (suc i, l)
  owned n reserved = (subst (λ y. IfSome y (λ k. (K.owner x.worker k ≡ Some (suc i, l)) × HasRoomOf nodes x.worker x.started k bs)) reserved f.reserved).0

  -- ---- with a reservation

  module _ (n : ℕ) (reserved : x.room ≡ Some n) (pen : W) (writes_to : block_writer x.bytes ≡ Some pen) (change : ChangesAt nodes mid (pred x.worker) (Commits o w n (key_at nodes x.worker n) pen (finished_of master.kept.names.nodes bs x))) (on : KnownOn K N master.kept.names.next_id master.kept.names.next_id) (gone : N.owner x.worker n ≡ None) (there : N.bytes_of m.file ≡ Some m.taken) where
    -- the open block's writer is the one that was taken out
    pen_taken : w.taken pen ≡ Some (bytes o w K master nodes bs (suc i, l) m x f whole some small n reserved)
    pen_taken =
        let k = known o w K master nodes bs (suc i, l) m x f whole some small n reserved in
        ap w.taken (some_same pen k.3 (sym writes_to ∙ k.4)) ∙ k.5

    -- the key is that of the worker's starts
    key_is : (node : Node S) → slice_get nodes (pred x.worker) ≡ Some node → key_at nodes x.worker n ≡ object_key node.started n
    key_is node there = ap (λ y. object_key (started_of y) n) there

    -- the block has room in the reservation
    fits_in : (q : RoomRow) → q.bytes ≡ bs → (finished_of master.kept.names.nodes bs x).len ≤ q.bytes
    fits_in q is = subst (λ k. (finished_of master.kept.names.nodes bs x).len ≤ k) (sym is) (within_block o w K master nodes bs (suc i, l) m x f whole some small n reserved)

    -- the commit at the worker itself
    module _ (a b : Node S) (was : slice_get nodes (pred x.worker) ≡ Some a) (c : Commits o w n (key_at nodes x.worker n) pen (finished_of master.kept.names.nodes bs x) a b) where
      here : Commits o w n (object_key a.started n) pen (finished_of master.kept.names.nodes bs x) a b
      here = subst (λ key. Commits o w n key pen (finished_of master.kept.names.nodes bs x) a b) (key_is a was) c

      stands_here : NodeStands o K master.kept.names.next_id bs (suc (pred x.worker)) a
      stands_here = stand (pred x.worker) a was

      owned_here : K.owner (suc (pred x.worker)) n ≡ Some (suc i, l)
      owned_here = ap (λ k. K.owner k n) (sym at_place) ∙ owned n reserved

      pub row_here : RowChanges (commit_as (finished_of master.kept.names.nodes bs x).keep (finished_of master.kept.names.nodes bs x).pin n x.file (finished_of master.kept.names.nodes bs x).block (finished_of master.kept.names.nodes bs x).len) a b
      row_here = let q = room_there n reserved a was in row_committed o w K N master.kept.names.next_id bs (suc (pred x.worker)) n on a b pen (finished_of master.kept.names.nodes bs x) (bytes o w K master nodes bs (suc i, l) m x f whole some small n reserved) q.0 q.1 stands_here pen_taken (suc i, l) owned_here here (fits_in q.0 q.2)

      pub rooms_here : KeepsRooms n a b
      rooms_here = let q = room_there n reserved a was in rooms_committed o w K N master.kept.names.next_id bs (suc (pred x.worker)) n on a b pen (finished_of master.kept.names.nodes bs x) (bytes o w K master nodes bs (suc i, l) m x f whole some small n reserved) q.0 q.1 stands_here pen_taken (suc i, l) owned_here here (fits_in q.0 q.2)

      pub node_here : (is_some (N.author m.file) ≡ true → bs ≤ open_len x.bytes.block) → NodeStands o N master.kept.names.next_id bs (suc (pred x.worker)) b
      node_here full = let q = room_there n reserved a was in
          node_committed o w K N master.kept.names.next_id bs (suc (pred x.worker)) n on a b pen (finished_of master.kept.names.nodes bs x) (bytes o w K master nodes bs (suc i, l) m x f whole some small n reserved) q.0 q.1 stands_here pen_taken (suc i, l) owned_here here (fits_in q.0 q.2)
          (must_keep K contents master.kept.names.next_id bs master.kept.names.nodes x.file files file) (subst (λ k. k < master.kept.names.next_id) f.file f.old) (ap (λ k. N.owner k n) (sym at_place) ∙ gone)
          (object_fits o w K master nodes bs (suc i, l) m x f whole some small n reserved N q.0.tier there full)

    -- all workers
    row_changes : ChangesAt nodes mid (pred x.worker) (RowChanges (commit_as (finished_of master.kept.names.nodes bs x).keep (finished_of master.kept.names.nodes bs x).pin n x.file (finished_of master.kept.names.nodes bs x).block (finished_of master.kept.names.nodes bs x).len))
    row_changes = changes_there nodes mid (pred x.worker) change (λ a b was c. row_here a b was c)

    pub workers_committed : WorkersStand mid (close_block U A m)
    workers_committed =
        let at : pred m.worker ≡ pred x.worker = ap pred f.worker in
        let rows = subst (λ k. ChangesAt nodes mid k (RowChanges (commit_as (finished_of master.kept.names.nodes bs x).keep (finished_of master.kept.names.nodes bs x).pin n x.file (finished_of master.kept.names.nodes bs x).block (finished_of master.kept.names.nodes bs x).len))) (sym at) row_changes in
        let does = closes o w K master nodes bs (suc i, l) m x f whole some small n reserved U A named stands in
        subst (λ (g : Worker → Worker). WorkersStand mid (change_worker m.worker g A)) (λ j k. sym (does k) j) (workers_change (commit_as (finished_of master.kept.names.nodes bs x).keep (finished_of master.kept.names.nodes bs x).pin n x.file (finished_of master.kept.names.nodes bs x).block (finished_of master.kept.names.nodes bs x).len) nodes mid m.worker rows A workers)

    pub setup_committed : SetupFits U bs area mid
    setup_committed = setup_at nodes mid (pred x.worker) (changes_there nodes mid (pred x.worker) change (λ a b was c. (row_here a b was c).sizes)) setup

    pub nodes_committed : (is_some (N.author m.file) ≡ true → bs ≤ open_len x.bytes.block) → NodesStand o N master.kept.names.next_id bs mid
    nodes_committed full = nodes_change_there o K N master.kept.names.next_id master.kept.names.next_id bs on nodes mid (pred x.worker) (Commits o w n (key_at nodes x.worker n) pen (finished_of master.kept.names.nodes bs x)) change (λ a b was c. node_here a b was c full) stand

    pub leaves_committed : (later : (id : ℕ) → id < master.kept.names.next_id → (K.author id ≡ Some (suc i, l) → ⊥) → (N.bytes_of id ≡ K.bytes_of id) × (N.author id ≡ K.author id)) → ((v k : ℕ) (b : Holder) → K.owner v k ≡ Some b → (b ≡ (suc i, l) → ⊥) → N.owner v k ≡ Some b) → Leaves (suc i, l) K N nodes mid master.kept.names.next_id master.kept.names.next_id
    leaves_committed later owners = record {
      later = omega arith;
      files = later;
      owners = owners;
      rooms = rooms_leave K (suc i, l) nodes mid x.worker n some_worker (changes_there nodes mid (pred x.worker) change (λ a b was c. rooms_here a b was c)) (λ b h other. other (some_same b (suc i, l) (sym h ∙ owned n reserved)));
    }
