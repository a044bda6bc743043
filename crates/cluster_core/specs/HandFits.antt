-- How what an actor has under a label fits what the file machine has there.
use Rattle.std.specs.Prelude.{ℕ, ◌≡◌, ◌⊎◌, ◌≤◌, ◌<◌, ◌+◌, ◌-◌, ◌*◌, ◌/◌, ⊤, Bool, true, false, cond, List, length, take, drop, Option, Some, None, IfSome, is_some, option_and_then}
use Rattle.fs_model.specs.declared.event.ReadType.{ReadType}
use Rattle.fs_model.specs.declared.event.WriteType.{WriteType}
use Rattle.fs_model.specs.State as machine
use Rattle.fs_model.specs.State.{OpenBlock, Source}
use Rattle.fs_model.specs.BytesOutcomes.{block_end, lacks}
use Rattle.outside.specs.declared.objects.ObjectRead as reads
use Rattle.outside.specs.declared.objects.ObjectWrite as writes
use Rattle.file_writer.specs.declared.parts.Block.{Block}
use Rattle.file_writer.specs.Parts.{block_tells}
use Rattle.file_writer.specs.Writing.{wants_room}
use Rattle.file_writer.specs.Taken.{HasTaken}
use Rattle.cluster_core.specs.declared.hand.Hand.{Hand}
use Rattle.cluster_core.specs.declared.hand.BlockSource.{BlockSource}
use Rattle.cluster_core.specs.declared.hand.Stream.{Stream}
use Rattle.cluster_core.specs.declared.hand.Writer.{Writer}
use Rattle.cluster_core.specs.declared.node.Node.{Node}
use Rattle.cluster_core.specs.Knowledge.{Knowledge, Holder, HasRoomOf}

-- ---- streams

-- where a stream reads from; a source whose reader failed is none
abbrev pub source_of : {R : Type 0} → Option (BlockSource R) → Option Source
source_of None = None
source_of (Some x) = cond x.failed None (Some (Source.AtWorker x.worker x.tier))

-- how many bytes of the block of its position the stream has still to give
abbrev pub rest_len : machine.Stream → ℕ
rest_len s = block_end s.bs (length s.bytes) (s.at / s.bs) - s.at

-- a reader that hasn't failed has left the rest of the block of the position, which is before the file's end
pub record ReaderFits {R : Type 0} (r : reads.Ghosts R) (s : machine.Stream) (x : BlockSource R) : Type 0 where
  pub inside : s.at < length s.bytes
  pub due : r.to_give x.stream.reader ≡ rest_len s
  pub left : r.left x.stream.reader ≡ Some (take (rest_len s) (drop s.at s.bytes))

-- a stream over a file that nobody writes, and whose bytes, of no more than 65,536 blocks, are its own
pub record StreamFits {R : Type 0} (r : reads.Ghosts R) (K : Knowledge) (next size : ℕ) (s : machine.Stream) (x : Stream R) : Type 0 where
  pub file : s.file ≡ x.file
  pub bs : s.bs ≡ size
  pub len : length s.bytes ≡ x.len
  pub short : length s.bytes ≤ 65536 * size
  pub at : s.at ≡ x.at
  pub kind : s.kind ≡ ReadType.NoCache
  pub worker : s.worker ≡ x.worker
  pub cache : s.cache ≡ None
  pub source : s.source ≡ source_of x.source
  pub reader : IfSome x.source (λ b. b.failed ≡ false → ReaderFits r s b)
  pub old : s.file < next
  pub bytes : K.bytes_of s.file ≡ Some s.bytes
  pub written : K.author s.file ≡ None

-- ---- writers

-- the open block with its reservation; without one no block is open
abbrev pub open_of : {W : Type 0} → Option ℕ → Option (Block W) → Option OpenBlock
open_of None b = None
open_of (Some n) None = None
open_of (Some n) (Some b) = Some (record { room = Some n; len = b.len })

-- an unbroken writer has the open block, its pens have taken the file's bytes, and there is a telling pen just where there is a reservation; without one a new block is wanted. It makes no object in a store
pub record WritesOn {W : Type 0} (w : writes.Ghosts W) (m : machine.Writer) (x : Writer W) : Type 0 where
  pub block : m.block ≡ open_of x.room x.bytes.block
  pub taken : HasTaken w x.bytes m.taken
  pub within : IfSome x.bytes.block (λ b. b.len ≤ x.bytes.bs)
  pub tells : block_tells w x.bytes.block ≡ is_some x.room
  pub wants : x.room ≡ None → wants_room x.bytes ≡ true
  pub alone : x.bytes.object ≡ None

-- the label writes the file; a broken one may write it no more
abbrev pub Writes : Knowledge → ℕ → Holder → Bool → Type 0
Writes K id a broken = (K.author id ≡ Some a) ⊎ ((broken ≡ true) × (K.author id ≡ None))

-- a writer of a file that is its own, with its reservation at the worker
pub record WriterFits {S W : Type 0} (w : writes.Ghosts W) (K : Knowledge) (nodes : List (Node S)) (next size : ℕ) (a : Holder) (m : machine.Writer) (x : Writer W) : Type 0 where
  pub file : m.file ≡ x.file
  pub bs : m.bs ≡ size
  pub blocks : x.bytes.bs ≡ size
  pub placed : 0 < x.worker
  pub kind : m.kind ≡ WriteType.MustCache
  pub worker : m.worker ≡ x.worker
  pub start : m.start ≡ x.started
  pub broken : m.broken ≡ x.broken
  pub room : option_and_then (λ b. b.room) m.block ≡ x.room
  pub short : length m.taken + lacks size m.block ≤ 65536 * size
  pub on : x.broken ≡ false → WritesOn w m x
  pub reserved : IfSome x.room (λ n. (K.owner x.worker n ≡ Some a) × HasRoomOf nodes x.worker x.started n size)
  pub old : m.file < next
  pub bytes : K.bytes_of m.file ≡ Some m.taken
  pub author : Writes K m.file a x.broken

-- ---- both

module _ {S R W : Type 0} (r : reads.Ghosts R) (w : writes.Ghosts W) (K : Knowledge) (nodes : List (Node S)) (next bs : ℕ) (a : Holder) where
  -- the same kind of hand, with all that belongs to it
  abbrev pub Fits : machine.Hand → Hand R W → Type 0
  Fits (machine.Hand.Reading s) (Hand.Reading x) = StreamFits r K next bs s x
  Fits (machine.Hand.Writing m) (Hand.Writing x) = WriterFits w K nodes next bs a m x
  Fits h x = ⊥

  -- nothing on both sides, or hands that fit
  abbrev pub HandFits : Option machine.Hand → Option (Hand R W) → Type 0
  HandFits None None = ⊤
  HandFits None (Some x) = ⊥
  HandFits (Some h) None = ⊥
  HandFits (Some h) (Some x) = Fits h x
