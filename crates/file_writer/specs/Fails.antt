-- Whose writer failed, by cases.
use Rattle.std.specs.Prelude.{ℕ, ⊤, Result, Ok, Err}
use Rattle.file_writer.specs.declared.parts.Failed.{Failed}
use Rattle.file_writer.specs.declared.parts.Failed.TheVariants.{Block, Object}

-- P holds where the open block's writer failed
abbrev pub IfBlock : {T : Type 0} → Result T Failed → Type 0 → Type 0
IfBlock (Ok x) P = ⊤
IfBlock (Err Block) P = P
IfBlock (Err (Object store)) P = ⊤

-- P holds of the store, where the object's writer failed
abbrev pub IfObject : {T : Type 0} → Result T Failed → (ℕ → Type 0) → Type 0
IfObject (Ok x) P = ⊤
IfObject (Err Block) P = ⊤
IfObject (Err (Object store)) P = P store
