-- The open block and the object, by the machine's words, and what they keep room for.
use Rattle.std.specs.Prelude.{ℕ, ◌≡◌, ◌≤◌, ◌<◌, ◌+◌, ◌-◌, ⊤, Bool, true, false, List, length, Option, None, Some, IfSome, option_map}
use Rattle.fs_model.specs.State.{OpenBlock}
use Rattle.fs_model.specs.BytesOutcomes.{lacks}
use Rattle.outside.specs.declared.objects.ObjectWrite as writes
use Rattle.file_writer.specs.declared.pen.Pen.{Pen}
use Rattle.file_writer.specs.declared.parts.Block.{Block}
use Rattle.file_writer.specs.declared.parts.Object.{Object}
use Rattle.file_writer.specs.Pens.{HasSpare, IsBroken, is_pen_steady, PenKeeps, PenTakes, pen_faults, pen_of, pen_tells}
use Rattle.file_writer.specs.declared.pen.Pen.TheVariants.{Open, Broken, Gone}

-- an open block as the machine has it; which room it has isn't known here
abbrev pub as_open : {W : Type 0} → Block W → OpenBlock
as_open b = record { room = None; len = b.len }

-- the open block as the machine has it, if one is open
abbrev pub open_block : {W : Type 0} → Option (Block W) → Option OpenBlock
open_block block = option_map as_open block

-- an empty block with the writer that was given, or with none
abbrev pub empty_block : {W : Type 0} → Option W → Block W
empty_block writer = record { len = 0; pen = pen_of writer }

-- a store's number and its writer as an object
abbrev pub object_of : {W : Type 0} → ℕ × W → Object W
object_of o = record { store = o.0; pen = Open o.1 }

-- how often the open block's writer has failed
abbrev pub block_faults : {W : Type 0} → writes.Ghosts W → Option (Block W) → ℕ
block_faults w None = 0
block_faults w (Some b) = pen_faults w b.pen

-- how often the object's writer has failed
abbrev pub object_faults : {W : Type 0} → writes.Ghosts W → Option (Object W) → ℕ
object_faults w None = 0
object_faults w (Some o) = pen_faults w o.pen

-- whether the open block's writer tells
abbrev pub block_tells : {W : Type 0} → writes.Ghosts W → Option (Block W) → Bool
block_tells w None = false
block_tells w (Some b) = pen_tells w b.pen

-- whether the object's writer tells
abbrev pub object_tells : {W : Type 0} → writes.Ghosts W → Option (Object W) → Bool
object_tells w None = false
object_tells w (Some o) = pen_tells w o.pen

-- whether the open block's writer is steady, if there is one
abbrev pub is_block_steady : {W : Type 0} → writes.Ghosts W → Option (Block W) → Bool
is_block_steady w None = true
is_block_steady w (Some b) = is_pen_steady w b.pen

-- whether the object's writer is steady, if there is one
abbrev pub is_object_steady : {W : Type 0} → writes.Ghosts W → Option (Object W) → Bool
is_object_steady w None = true
is_object_steady w (Some o) = is_pen_steady w o.pen

-- ---- room

-- an open block is at most as long as a block, and its writer has spare for what it lacks
pub record BlockFits {W : Type 0} (w : writes.Ghosts W) (bs : ℕ) (b : Block W) : Type 0 where
  pub len : b.len ≤ bs
  pub spare : HasSpare w (bs - b.len) b.pen

-- blocks aren't empty, and both writers have spare for what the open block lacks
pub record Fits {W : Type 0} (w : writes.Ghosts W) (bs : ℕ) (b : Option (Block W)) (o : Option (Object W)) : Type 0 where
  pub size : 0 < bs
  pub block : IfSome b (BlockFits w bs)
  pub object : IfSome o (λ x. HasSpare w (lacks bs (open_block b)) x.pen)

-- ---- what a call does to them

-- the open block took these bytes
pub record BlockTakes {W : Type 0} (w : writes.Ghosts W) (bytes : List ℕ) (old new : Block W) : Type 0 where
  pub len : new.len ≡ old.len + length bytes
  pub pen : PenTakes w bytes old.pen new.pen

-- the object took these bytes, where there is one
abbrev pub ObjectTakes : {W : Type 0} → writes.Ghosts W → List ℕ → Option (Object W) → Option (Object W) → Type 0
ObjectTakes w bytes None new = new ≡ None
ObjectTakes w bytes (Some old) None = ⊥
ObjectTakes w bytes (Some old) (Some new) = (new.store ≡ old.store) × PenTakes w bytes old.pen new.pen

-- the object took nothing, and is as it was but for its spare
abbrev pub ObjectKeeps : {W : Type 0} → writes.Ghosts W → Option (Object W) → Option (Object W) → Type 0
ObjectKeeps w None new = new ≡ None
ObjectKeeps w (Some old) None = ⊥
ObjectKeeps w (Some old) (Some new) = (new.store ≡ old.store) × PenKeeps w old.pen new.pen

-- no writer takes bytes through this pen
abbrev pub IsShut : {W : Type 0} → Pen W → Type 0
IsShut (Open writer) = ⊥
IsShut (Broken writer) = ⊤
IsShut Gone = ⊤

-- the open block is as long as before, and takes no more into a worker's writer
pub record BlockStops {W : Type 0} (old new : Block W) : Type 0 where
  pub len : new.len ≡ old.len
  pub pen : IsShut new.pen

-- the object's writer broke
abbrev pub ObjectBreaks : {W : Type 0} → Option (Object W) → Option (Object W) → Type 0
ObjectBreaks None new = ⊥
ObjectBreaks (Some old) None = ⊥
ObjectBreaks (Some old) (Some new) = (new.store ≡ old.store) × IsBroken new.pen
