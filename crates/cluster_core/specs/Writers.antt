-- A writer taken out of the labels, and what events do at its worker.
use Rattle.std.specs.Prelude.{ℕ, ◌≡◌, ◌≤◌, ◌-◌, ◌/◌, ◌^◌, min, ⊤, Bool, true, false, not, ◌&&◌, List, [], ◌∷◌, ◌++◌, pred, slice_get, nat_le, Option, Some, None, IfSome, IsSome, IsSomeAnd, is_none}
use Rattle.fs_model.specs.declared.event.Event.{Event}
use Rattle.fs_model.specs.declared.reply.Reply.{Reply}
use Rattle.fs_model.specs.declared.reply.Refusal.TheVariants.{NotFound, NoWorker, NoRoom}
use Rattle.fs_model.specs.declared.reply.Which.{Which}
use Rattle.fs_model.specs.Words.{first, block_count}
use Rattle.fs_model.specs.State.{NodeRow}
use Rattle.fs_model.specs.Lookups.{at_number, file_of}
use Rattle.fs_model.specs.Tests.{refuse, past}
use Rattle.inode_tree.specs.Rows.{file_row}
use Rattle.outside.specs.Keys.{KeyNames}
use Rattle.outside.specs.declared.disk.Disk as disks
use Rattle.outside.specs.declared.objects.Objects as objects
use Rattle.outside.specs.declared.objects.ObjectRead as reads
use Rattle.outside.specs.declared.objects.ObjectWrite as writes
use Rattle.tier_book.specs.Rows.{fitting, room_numbered, row_of}
use Rattle.file_writer.specs.declared.parts.Block.{Block}
use Rattle.file_writer.specs.Writing.{Writing, wants_room}
use Rattle.cluster_core.specs.LabelsView.{LabelsView, HasRoom, hand_in}
use Rattle.cluster_core.specs.HandChanges.{EndsHand}
use Rattle.cluster_core.specs.Goes.{Steps}
use Rattle.master_state.specs.Fits.{file_passes}
use Rattle.master_node.specs.Mastering.{Mastering}
use Rattle.cluster_core.specs.Names.{is_short, stop_test}
use Rattle.cluster_core.specs.Here.{runs_here}
use Rattle.cluster_core.specs.Kept.{KeepsRest}
use Rattle.cluster_core.specs.Nodes.{IsFreed, commit_as, node_row}
use Rattle.cluster_core.specs.Tiers.{ChangesAt, IsFaultOrCrossed, IsPut, IsPutOrNot}
use Rattle.cluster_core.specs.declared.cluster.Core.{Core}
use Rattle.cluster_core.specs.declared.hand.Hand.{Hand}
use Rattle.cluster_core.specs.declared.hand.Writer.{Writer}
use Rattle.cluster_core.specs.declared.node.Node.{Node}
use Rattle.cluster_core.specs.declared.node.Finished.{Finished}

-- ---- the label's writer

-- no unbroken writer is there
abbrev pub IsNoWriter : {R W : Type 0} → Option (Hand R W) → Type 0
IsNoWriter None = ⊤
IsNoWriter (Some (Hand.Reading x)) = ⊤
IsNoWriter (Some (Hand.Writing x)) = x.broken ≡ true

-- the writer was taken out of the actor's labels, and nothing else has changed
pub record TookWriter {D S R W : Type 0} {d : disks.Ghosts D} {w : writes.Ghosts W} (was now : Core D S R W d w) (who : ℕ) (l : List ℕ) (x : Writer W) : Type 0 where
  pub rest : KeepsRest was now
  pub workers : now.workers ≡ was.workers
  pub hands : ChangesAt was.hands.items now.hands.items (pred who) (EndsHand l (Hand.Writing x))
  pub unbroken : x.broken ≡ false

-- a hand may be put under the actor's label
abbrev pub MayPut : {R W : Type 0} → List (LabelsView (Hand R W)) → ℕ → List ℕ → Type 0
MayPut labels who l = IsSomeAnd (slice_get labels (pred who)) (λ s. (hand_in s l ≡ None) × HasRoom s)

-- from before the writer was taken out on, the event is a step
abbrev pub StepsFrom : {D S R W : Type 0} (d : disks.Ghosts D) (o : objects.Ghosts S R W) (r : reads.Ghosts R) (w : writes.Ghosts W) → Core D S R W d w → Core D S R W d w → ℕ → List ℕ → Writer W → Event → Reply → Type 0
StepsFrom {D} {S} {R} {W} d o r w now new who l x e reply = (was : Core D S R W d w) → TookWriter was now who l x → Steps d o r w was new who e reply

-- ---- tests

module _ {S : Type 0} where
  -- the next object number of a worker, if there is one
  abbrev pub next_of : Option (Node S) → ℕ
  next_of None = 1
  next_of (Some n) = n.book.next

  -- no tier of the worker has so many bytes free, or there is no such worker
  abbrev pub lacks_room : ℕ → Option (Node S) → Bool
  lacks_room n None = true
  lacks_room n (Some node) = is_none (fitting node.book n)

  -- why a writer gets no room, if it gets none
  abbrev pub room_test : {D W : Type 0} → Mastering D → List (Node S) → ℕ → Writer W → Option Reply
  room_test m nodes bs x = first (
      stop_test m
      ∷ refuse NotFound (is_none (file_row m.kept.names.nodes x.file))
      ∷ past Which.Blocks (wants_room x.bytes && nat_le 65536 (block_count x.bytes.len bs))
      ∷ past Which.Ids (wants_room x.bytes && nat_le (2 ^ 63) (next_of (at_number nodes x.worker)))
      ∷ refuse (NoWorker x.worker) (not (runs_here nodes x.worker x.started))
      ∷ refuse (NoRoom x.worker) (wants_room x.bytes && lacks_room x.bytes.bs (at_number nodes x.worker))
      ∷ [])

-- why the file of a writer can't be done, if it can't
abbrev pub finish_test : {D S W : Type 0} → Mastering D → List (Node S) → Writer W → Option Reply
finish_test m nodes x = first (
    stop_test m
    ∷ refuse NotFound (not (file_passes (λ f. not f.done) (file_of m.kept.names x.file)))
    ∷ past Which.Area (is_short m 30)
    ∷ refuse (NoWorker x.worker) (not (runs_here nodes x.worker x.started))
    ∷ [])

-- ---- the open block

-- how many bytes the open block has
abbrev pub open_len : {W : Type 0} → Option (Block W) → ℕ
open_len None = 0
open_len (Some b) = b.len

-- which block of the file the open one is; no number is above 2^32 - 1
abbrev pub open_number : {W : Type 0} → ℕ → Writing W → ℕ
open_number bs x = min ((x.len - open_len x.block) / bs) (2 ^ 32 - 1)

module _ {S R W : Type 0} (o : objects.Ghosts S R W) (w : writes.Ghosts W) where
  -- a reservation with its object's writer became a copy of the block, or was freed where the worker has that block
  pub record Commits (n : ℕ) (key : KeyNames) (pen : W) (b : Finished) (old new : Node S) : Type 0 where
    pub row : IsSomeAnd (room_numbered n old.book.rooms) (λ q. b.len ≤ q.bytes) → node_row new ≡ commit_as b.keep b.pin n b.file b.block b.len (node_row old)
    pub sizes : new.book.sizes ≡ old.book.sizes
    pub done : row_of b.file b.block old.book.rows ≡ None → IfSome (room_numbered n old.book.rooms) (λ q. b.len ≤ q.bytes → ChangesAt old.tiers.items new.tiers.items q.tier (IsPut o w pen key))
    pub there : IsSome (row_of b.file b.block old.book.rows) → new.tiers ≡ old.tiers

  -- a commit failed: the reservation was freed, and its number is litter
  pub record Loses (n : ℕ) (key : KeyNames) (pen : W) (b : Finished) (old new : Node S) : Type 0 where
    pub freed : IsFreed old new n (old.litter.items ++ n ∷ [])
    pub absent : row_of b.file b.block old.book.rows ≡ None
    pub tiers : IsSomeAnd (room_numbered n old.book.rooms) (λ q. ChangesAt old.tiers.items new.tiers.items q.tier (IsPutOrNot o w pen key))
    pub failed : IsSomeAnd (room_numbered n old.book.rooms) (λ q. ChangesAt old.tiers.items new.tiers.items q.tier (IsFaultOrCrossed o key))
