-- A file's writer as contracts see it, and what its calls do to it.
use Rattle.std.specs.Prelude.{ℕ, ◌≡◌, ◌+◌, ◌-◌, ◌^◌, min, Bool, List, length, Option, None, Some, option_and_then}
use Rattle.fs_model.specs.BytesEvents.{block_wanted}
use Rattle.outside.specs.declared.objects.ObjectWrite as writes
use Rattle.file_writer.specs.declared.pen.Pen.TheVariants.{Gone}
use Rattle.file_writer.specs.declared.parts.Block.{Block}
use Rattle.file_writer.specs.declared.parts.Object.{Object}
use Rattle.file_writer.specs.Pens.{writer_of}
use Rattle.file_writer.specs.Parts.{BlockStops, BlockTakes, ObjectTakes, open_block}

-- the size of its blocks, how many bytes it took in all, up to 2^64 - 1, the worker of its blocks, the open block, and the object in a store
pub record Writing (W : Type 0) : Type 0 where
  pub bs : ℕ
  pub len : ℕ
  pub worker : Option ℕ
  pub block : Option (Block W)
  pub object : Option (Object W)

-- no block is open, or the open one is full
abbrev pub wants_room : {W : Type 0} → Writing W → Bool
wants_room x = block_wanted x.bs (open_block x.block)

-- a count that stays at its last value
abbrev pub counted : ℕ → ℕ
counted n = min n (2 ^ 64 - 1)

-- the number of a worker, or 0 for none
abbrev pub number_of : Option ℕ → ℕ
number_of None = 0
number_of (Some worker) = worker

-- the block without its writer
abbrev pub without_writer : {W : Type 0} → Block W → Block W
without_writer b = record b { pen = Gone }

-- the open block's writer
abbrev pub block_writer : {W : Type 0} → Writing W → Option W
block_writer x = option_and_then (λ b. writer_of b.pen) x.block

-- the object's writer
abbrev pub object_writer : {W : Type 0} → Writing W → Option W
object_writer x = option_and_then (λ o. writer_of o.pen) x.object

-- P holds of both open blocks
abbrev pub OnBlocks : {W : Type 0} → Option (Block W) → Option (Block W) → (Block W → Block W → Type 0) → Type 0
OnBlocks None new P = ⊥
OnBlocks (Some old) None P = ⊥
OnBlocks (Some old) (Some new) P = P old new

-- the open block and the object took these bytes
pub record TakesPiece {W : Type 0} (w : writes.Ghosts W) (bytes : List ℕ) (old new : Writing W) : Type 0 where
  pub bs : new.bs ≡ old.bs
  pub len : new.len ≡ counted (old.len + length bytes)
  pub worker : new.worker ≡ old.worker
  pub block : OnBlocks old.block new.block (BlockTakes w bytes)
  pub object : ObjectTakes w bytes old.object new.object

-- after a fault the lengths stand, and no writer takes bytes for the open block
pub record Stops {W : Type 0} (old new : Writing W) : Type 0 where
  pub bs : new.bs ≡ old.bs
  pub len : new.len ≡ old.len
  pub worker : new.worker ≡ old.worker
  pub block : OnBlocks old.block new.block BlockStops
