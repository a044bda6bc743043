-- That a file's writer has taken just these bytes of its file.
use Rattle.std.specs.Prelude.{ℕ, ◌≡◌, ◌+◌, ◌-◌, ◌*◌, ◌/◌, List, length, Option, None, Some, IfSome}
use Rattle.fs_model.specs.Words.{block_of}
use Rattle.outside.specs.declared.objects.ObjectWrite as writes
use Rattle.file_writer.specs.declared.parts.Block.{Block}
use Rattle.file_writer.specs.Pens.{PenHas}
use Rattle.file_writer.specs.Writing.{Writing, counted}

-- the number of the open block: the blocks before it are full
abbrev pub open_index : ℕ → ℕ → List ℕ → ℕ
open_index bs len bytes = (length bytes - len) / bs

-- the bytes of the open block, which has this length
abbrev pub open_bytes : ℕ → ℕ → List ℕ → List ℕ
open_bytes bs len bytes = block_of bytes (open_index bs len bytes) bs

-- so long an open block begins where a block of the file does, and goes on to the end of the bytes
abbrev pub IsAligned : ℕ → ℕ → List ℕ → Type 0
IsAligned bs len bytes = open_index bs len bytes * bs + len ≡ length bytes

-- the open block begins where a block does, and its writer has that block's bytes; without one all blocks are full
abbrev pub BlockHas : {W : Type 0} → writes.Ghosts W → ℕ → List ℕ → Option (Block W) → Type 0
BlockHas w bs bytes None = IsAligned bs 0 bytes
BlockHas w bs bytes (Some b) = IsAligned bs b.len bytes × PenHas w (open_bytes bs b.len bytes) b.pen

-- the file's writer has taken these bytes: the open block's writer those of its block, and the object's writer all
pub record HasTaken {W : Type 0} (w : writes.Ghosts W) (x : Writing W) (bytes : List ℕ) : Type 0 where
  pub len : x.len ≡ counted (length bytes)
  pub block : BlockHas w x.bs bytes x.block
  pub object : IfSome x.object (λ o. PenHas w bytes o.pen)
