-- What the core stands by where the commit of a writer's open block failed.
use Rattle.std.proofs.Common.{◌≡◌, ℕ, suc, pred, ◌<◌, true, false, cond, Some, None, refl, sym, ap, ap₂, ◌∙◌, subst, arith}
use Rattle.std.specs.Prelude.{IsSomeAnd, slice_get}
use Rattle.fs_model.specs.declared.setup.Setup.{Setup}
use Rattle.fs_model.specs.declared.label.Label.{Label}
use Rattle.fs_model.specs.State as machine
use Rattle.fs_model.specs.State.{State, Whole, Hands, Worker, OpenBlock, RoomRow}
use Rattle.fs_model.specs.BytesOutcomes.{room_to_litter}
use Rattle.outside.specs.declared.disk.Disk as disks
use Rattle.outside.specs.declared.objects.Objects as objects
use Rattle.outside.specs.declared.objects.ObjectRead as reads
use Rattle.outside.specs.declared.objects.ObjectWrite as writes
use Rattle.file_writer.specs.Writing.{block_writer}
use Rattle.cluster_core.specs.Tiers.{ChangesAt}
use Rattle.cluster_core.specs.Here.{runs_here}
use Rattle.cluster_core.specs.HandFits.{WriterFits}
use Rattle.cluster_core.specs.Knowledge.{Knowledge, Leaves, with_owner}
use Rattle.cluster_core.specs.Stands.{Stands, NodesStand}
use Rattle.cluster_core.specs.Goes.{TierRose}
use Rattle.cluster_core.specs.Writers.{Loses}
use Rattle.cluster_core.specs.Committed.{finished_of, key_at}
use Rattle.cluster_core.specs.declared.cluster.Core.{Core}
use Rattle.cluster_core.specs.declared.hand.Writer.{Writer}
use Rattle.cluster_core.specs.declared.node.Node.{Node}
use Rattle.cluster_core.proofs.NodeChanges.{both_there}
use Rattle.cluster_core.proofs.RoomTests.{behind}
use Rattle.cluster_core.proofs.CommitGo.{known}
use Rattle.cluster_core.proofs.CommitParts.{room_there}
use Rattle.cluster_core.proofs.Faulty.{RoseAt}
use Rattle.tier_book.specs.Rows.{room_numbered}
use Rattle.cluster_core.proofs.NodeChanges.{RowChanges, changes_by, changes_there}
use Rattle.cluster_core.proofs.RoomChanges.{rooms_leave}
use Rattle.cluster_core.proofs.SpaceNode.{not_both}
use Rattle.cluster_core.specs.Tiers.{object_key}
use Rattle.cluster_core.specs.Committed.{started_of}
use Rattle.cluster_core.proofs.Frames.{nodes_change_there}
use Rattle.cluster_core.proofs.CommitNode.{node_lost, rooms_lost}
use Rattle.cluster_core.proofs.ClosedBlock.{one_gone}
use Rattle.cluster_core.proofs.HandStays.{some_same}
use Rattle.cluster_core.proofs.CommitGo.{bytes}
use Rattle.cluster_core.proofs.CommitParts.{owned}
use Rattle.cluster_core.proofs.Faulty.{row_lost, loss_rose}
use Rattle.std.specs.Prelude.{IsSome}
use Rattle.inode_tree.specs.Rows.{file_row}
use Rattle.fs_model.specs.BytesEvents.{writer_stands}

module _ {D S R W : Type 0} {d : disks.Ghosts D} (o : objects.Ghosts S R W) (r : reads.Ghosts R) (w : writes.Ghosts W) (was new : Core D S R W d w) (l : Label) (i : ℕ) (x : Writer W) (whole : x.broken ≡ false) (U : Setup) (V : Whole) (s : Stands d o r w U was V) (m : machine.Writer) (f : WriterFits w s.known was.workers.items was.master.kept.names.next_id was.block (suc i, l) m x) (stands : writer_stands V.body m ≡ true) (runs : runs_here was.workers.items x.worker x.started ≡ true) (file : IsSome (file_row was.master.kept.names.nodes x.file)) where
  at_place : x.worker ≡ suc (pred x.worker)
  at_place = behind x.worker f.placed

  module _ (n : ℕ) (reserved : x.room ≡ Some n) (lost : (pen : W) → block_writer x.bytes ≡ Some pen → ChangesAt was.workers.items new.workers.items (pred x.worker) (Loses o w n (key_at was.workers.items x.worker n) pen (finished_of was.master.kept.names.nodes was.block x))) where
    -- the open block's writer
    pub pen_of : (pen : W) × (block_writer x.bytes ≡ Some pen) × (w.taken pen ≡ Some (bytes o w s.known was.master was.workers.items was.block (suc i, l) m x f whole was.blocks was.small n reserved))
    pen_of = let k = known o w s.known was.master was.workers.items was.block (suc i, l) m x f whole was.blocks was.small n reserved in (k.3, k.4, k.5)

    loss : ChangesAt was.workers.items new.workers.items (pred x.worker) (Loses o w n (key_at was.workers.items x.worker n) pen_of.0 (finished_of was.master.kept.names.nodes was.block x))
    loss = lost pen_of.0 pen_of.1

    pub room_of_it : (a : Node S) → slice_get was.workers.items (pred x.worker) ≡ Some a → (q : RoomRow) × (room_numbered n a.book.rooms ≡ Some q) × (q.bytes ≡ was.block)
    room_of_it a there = room_there o w s.known s.known was.master was.workers.items new.workers.items was.block was.master.journal.limit i l m x f whole was.blocks was.small U V.body s.names s.workers s.setup s.objects V.body.contents s.files.each stands runs file n reserved a there

    owned_it : s.known.owner (suc (pred x.worker)) n ≡ Some (suc i, l)
    owned_it = ap (λ v. s.known.owner v n) (sym at_place) ∙ owned o w s.known s.known was.master was.workers.items new.workers.items was.block was.master.journal.limit i l m x f whole was.blocks was.small U V.body s.names s.workers s.setup s.objects V.body.contents s.files.each stands runs file n reserved

    loss_here : (a b : Node S) → slice_get was.workers.items (pred x.worker) ≡ Some a → Loses o w n (key_at was.workers.items x.worker n) pen_of.0 (finished_of was.master.kept.names.nodes was.block x) a b → Loses o w n (object_key a.started n) pen_of.0 (finished_of was.master.kept.names.nodes was.block x) a b
    loss_here a b there c = subst (λ key. Loses o w n key pen_of.0 (finished_of was.master.kept.names.nodes was.block x) a b) (ap (λ y. object_key (started_of y) n) there) c

    abbrev pub lost_known : Knowledge
    lost_known = with_owner x.worker n None s.known

    pub lost_rows : ChangesAt was.workers.items new.workers.items (pred m.worker) (RowChanges (room_to_litter n))
    lost_rows = subst (λ v. ChangesAt was.workers.items new.workers.items (pred v) (RowChanges (room_to_litter n))) (sym f.worker) (changes_by was.workers.items new.workers.items (pred x.worker) loss (λ a b c. row_lost o w n (key_at was.workers.items x.worker n) pen_of.0 (finished_of was.master.kept.names.nodes was.block x) a b c))

    pub lost_leaves : Leaves (suc i, l) s.known lost_known was.workers.items new.workers.items was.master.kept.names.next_id was.master.kept.names.next_id
    lost_leaves = record {
      later = omega arith;
      files = λ id few other. (refl, refl);
      owners = λ v k b h other. ap (λ c. cond c None (s.known.owner v k)) (not_both x.worker v n k (λ e d. other (some_same b (suc i, l) (sym h ∙ ap₂ s.known.owner e d ∙ ap (λ z. s.known.owner z n) at_place ∙ owned_it)))) ∙ h;
      rooms = rooms_leave s.known (suc i, l) was.workers.items new.workers.items x.worker n (λ e. let k : 0 < x.worker = f.placed in omega (arith, e, k)) (changes_there was.workers.items new.workers.items (pred x.worker) loss (λ a b there c. let q = room_of_it a there in rooms_lost o w s.known lost_known was.master.kept.names.next_id was.block (suc (pred x.worker)) n (one_gone s.known was.master.kept.names.next_id x.worker n) a b pen_of.0 (finished_of was.master.kept.names.nodes was.block x) (bytes o w s.known was.master was.workers.items was.block (suc i, l) m x f whole was.blocks was.small n reserved) q.0 q.1 (s.objects (pred x.worker) a there) pen_of.2 (suc i, l) owned_it (loss_here a b there c))) (λ b h other. other (some_same b (suc i, l) (sym h ∙ ap (λ z. s.known.owner z n) at_place ∙ owned_it)));
    }

    pub lost_nodes : NodesStand o lost_known was.master.kept.names.next_id was.block new.workers.items
    lost_nodes = nodes_change_there o s.known lost_known was.master.kept.names.next_id was.master.kept.names.next_id was.block (one_gone s.known was.master.kept.names.next_id x.worker n) was.workers.items new.workers.items (pred x.worker) (Loses o w n (key_at was.workers.items x.worker n) pen_of.0 (finished_of was.master.kept.names.nodes was.block x)) loss (λ a b there c. let q = room_of_it a there in node_lost o w s.known lost_known was.master.kept.names.next_id was.block (suc (pred x.worker)) n (one_gone s.known was.master.kept.names.next_id x.worker n) a b pen_of.0 (finished_of was.master.kept.names.nodes was.block x) (bytes o w s.known was.master was.workers.items was.block (suc i, l) m x f whole was.blocks was.small n reserved) q.0 q.1 (s.objects (pred x.worker) a there) pen_of.2 (suc i, l) owned_it (loss_here a b there c)) s.objects

    -- the tier whose count rose
    pub lost_at : (a : Node S) × (b : Node S) × (slice_get was.workers.items (pred x.worker) ≡ Some a) × (slice_get new.workers.items (pred x.worker) ≡ Some b) × Loses o w n (key_at was.workers.items x.worker n) pen_of.0 (finished_of was.master.kept.names.nodes was.block x) a b
    lost_at = both_there (slice_get was.workers.items (pred x.worker)) (slice_get new.workers.items (pred x.worker)) loss.at

    -- the tier of the reservation
    abbrev pub lost_tier : ℕ
    lost_tier = (room_of_it lost_at.0 lost_at.2).0.tier

    pub lost_rose : TierRose o r w was new x.worker lost_tier
    lost_rose =
        let q = room_of_it lost_at.0 lost_at.2 in
        let rose = loss_rose o w s.known was.master.kept.names.next_id was.block (suc (pred x.worker)) n pen_of.0 (finished_of was.master.kept.names.nodes was.block x) lost_at.0 lost_at.1 q.0 q.1 (s.objects (pred x.worker) lost_at.0 lost_at.2) (loss_here lost_at.0 lost_at.1 lost_at.2 lost_at.4) in
        subst (λ y. IsSomeAnd y (λ a. IsSomeAnd (slice_get new.workers.items (pred x.worker)) (λ b. RoseAt o q.0.tier a b))) (sym lost_at.2) (subst (λ y. IsSomeAnd y (λ b. RoseAt o q.0.tier lost_at.0 b)) (sym lost_at.3) rose)
