-- What a put did to what is under a label.
use Rattle.std.specs.Prelude.{ℕ, ◌≡◌, ◌++◌, ◌-◌, Bool, true, false, min, List, length, take, Option, Some, None, IsSomeAnd}
use Rattle.fs_model.specs.declared.event.Fill.{Fill}
use Rattle.fs_model.specs.declared.reply.Reply.{Reply}
use Rattle.fs_model.specs.declared.reply.Refusal.{Refusal}
use Rattle.fs_model.specs.BytesOutcomes.{fill_bytes, fill_len, lacks}
use Rattle.outside.specs.Causes.{Rose}
use Rattle.outside.specs.declared.objects.ObjectWrite as writes
use Rattle.file_writer.specs.Parts.{block_faults, block_tells, is_block_steady, is_object_steady, object_faults, open_block}
use Rattle.file_writer.specs.Taken.{HasTaken}
use Rattle.file_writer.specs.Writing.{Writing, Stops, TakesPiece, wants_room}
use Rattle.cluster_core.specs.declared.hand.Hand.{Hand}
use Rattle.cluster_core.specs.declared.hand.Writer.{Writer}
use Rattle.cluster_core.specs.declared.putting.PutEnd.{PutEnd}

-- what is answered
abbrev pub put_reply : PutEnd → Reply
put_reply PutEnd.BadLabel = Reply.Refused Refusal.BadLabel
put_reply PutEnd.NeedsRoom = Reply.NeedsRoom
put_reply PutEnd.Short = Reply.Refused Refusal.Memory
put_reply (PutEnd.Taken n) = Reply.Taken n
put_reply (PutEnd.TierFault v) = Reply.Refused (Refusal.TierFault v)
put_reply (PutEnd.UnderFault s) = Reply.Refused (Refusal.UnderFault s)

-- the bytes aren't listed, so that memory is taken for them
abbrev pub is_made : Fill → Bool
is_made (Fill.Listed bytes) = false
is_made (Fill.Made num at len) = true

-- so many bytes does the open block lack
abbrev pub lacking : {W : Type 0} → Writing W → ℕ
lacking x = lacks x.bs (open_block x.block)

-- the same of an open block that has so many bytes, if one is open
abbrev pub missing : ℕ → Option ℕ → ℕ
missing bs None = 0
missing bs (Some len) = bs - len

module _ {W : Type 0} (w : writes.Ghosts W) where
  -- all but the bytes of a writer, and whether it is broken, stays
  pub record SameWriter (old new : Writer W) : Type 0 where
    pub file : new.file ≡ old.file
    pub worker : new.worker ≡ old.worker
    pub started : new.started ≡ old.started
    pub room : new.room ≡ old.room

  -- the open block, which wasn't full, took these bytes
  pub record Took (bytes : List ℕ) (old new : Writer W) : Type 0 where
    pub same : SameWriter old new
    pub broken : new.broken ≡ old.broken
    pub wanted : wants_room old.bytes ≡ false
    pub takes : TakesPiece w bytes old.bytes new.bytes
    pub taken : (all : List ℕ) → HasTaken w old.bytes all → HasTaken w new.bytes (all ++ bytes)
    pub tells : block_tells w new.bytes.block ≡ block_tells w old.bytes.block
    pub block_steady : is_block_steady w new.bytes.block ≡ is_block_steady w old.bytes.block
    pub object_steady : is_object_steady w new.bytes.object ≡ is_object_steady w old.bytes.object

  -- the open block, which wasn't full, failed, and the writer is broken; the block's writer isn't steady
  pub record Broke (old new : Writer W) : Type 0 where
    pub same : SameWriter old new
    pub broken : new.broken ≡ true
    pub wanted : wants_room old.bytes ≡ false
    pub stops : Stops old.bytes new.bytes
    pub unsteady : is_block_steady w old.bytes.block ≡ false
    pub rose : Rose (block_faults w old.bytes.block) (block_faults w new.bytes.block)

  -- the writer has an object in this store, and the count of the object's writer, which isn't steady, rose
  abbrev pub ObjectRose : ℕ → Writer W → Writer W → Type 0
  ObjectRose s old new = IsSomeAnd old.bytes.object (λ o. s ≡ o.store) × (is_object_steady w old.bytes.object ≡ false) × Rose (object_faults w old.bytes.object) (object_faults w new.bytes.object)

  -- a put of a piece ended so
  abbrev pub DidPiece : List ℕ → PutEnd → Writer W → Writer W → Type 0
  DidPiece piece PutEnd.BadLabel old new = ⊥
  DidPiece piece PutEnd.NeedsRoom old new = (wants_room old.bytes ≡ true) × (new ≡ old)
  DidPiece piece PutEnd.Short old new = ⊥
  DidPiece piece (PutEnd.Taken n) old new = (n ≡ min (length piece) (lacking old.bytes)) × Took (take n piece) old new
  DidPiece piece (PutEnd.TierFault v) old new = (v ≡ old.worker) × Broke old new
  DidPiece piece (PutEnd.UnderFault s) old new = ObjectRose s old new

  -- a put of a fill ended so, in blocks of so many bytes
  abbrev pub DidPut : ℕ → Fill → PutEnd → Writer W → Writer W → Type 0
  DidPut bs fill PutEnd.BadLabel old new = (old.broken ≡ true) × (new ≡ old)
  DidPut bs fill PutEnd.NeedsRoom old new = (old.broken ≡ false) × (wants_room old.bytes ≡ true) × (new ≡ old)
  DidPut bs fill PutEnd.Short old new = (is_made fill ≡ true) × (old.broken ≡ false) × (wants_room old.bytes ≡ false) × (new ≡ old)
  DidPut bs fill (PutEnd.Taken n) old new = (old.broken ≡ false) × (old.bytes.bs ≡ bs → n ≡ min (fill_len fill) (lacking old.bytes)) × Took (take n (fill_bytes fill)) old new
  DidPut bs fill (PutEnd.TierFault v) old new = (old.broken ≡ false) × (v ≡ old.worker) × Broke old new
  DidPut bs fill (PutEnd.UnderFault s) old new = (old.broken ≡ false) × ObjectRose s old new

  -- the same of what is under a label: a stream takes no bytes
  abbrev pub DidIn : {R : Type 0} → ℕ → Fill → PutEnd → Hand R W → Hand R W → Type 0
  DidIn bs fill end (Hand.Reading x) new = (end ≡ PutEnd.BadLabel) × (new ≡ Hand.Reading x)
  DidIn bs fill end (Hand.Writing x) (Hand.Reading y) = ⊥
  DidIn bs fill end (Hand.Writing x) (Hand.Writing y) = DidPut bs fill end x y
