-- What a put of a file's writer answered, by cases.
use Rattle.std.specs.Prelude.{ℕ, ⊤, Option}
use Rattle.file_writer.specs.declared.parts.Failed.{Failed}
use Rattle.file_writer.specs.declared.parts.Failed.TheVariants.{Block, Object}
use Rattle.file_writer.specs.declared.writer.PutStep.{PutStep}
use Rattle.file_writer.specs.Writing.{number_of}

-- P holds of how many bytes it took, where it took a piece
abbrev pub IfTaken : PutStep → (ℕ → Type 0) → Type 0
IfTaken (PutStep.Taken n) P = P n
IfTaken PutStep.NeedsRoom P = ⊤
IfTaken (PutStep.TierFault worker) P = ⊤
IfTaken (PutStep.UnderFault store) P = ⊤

-- P holds where it needs room
abbrev pub OnNeedsRoom : PutStep → Type 0 → Type 0
OnNeedsRoom (PutStep.Taken n) P = ⊤
OnNeedsRoom PutStep.NeedsRoom P = P
OnNeedsRoom (PutStep.TierFault worker) P = ⊤
OnNeedsRoom (PutStep.UnderFault store) P = ⊤

-- P holds of the worker, where a worker's writer failed
abbrev pub IfTierFault : PutStep → (ℕ → Type 0) → Type 0
IfTierFault (PutStep.Taken n) P = ⊤
IfTierFault PutStep.NeedsRoom P = ⊤
IfTierFault (PutStep.TierFault worker) P = P worker
IfTierFault (PutStep.UnderFault store) P = ⊤

-- P holds of the store, where a store's writer failed
abbrev pub IfUnderFault : PutStep → (ℕ → Type 0) → Type 0
IfUnderFault (PutStep.Taken n) P = ⊤
IfUnderFault PutStep.NeedsRoom P = ⊤
IfUnderFault (PutStep.TierFault worker) P = ⊤
IfUnderFault (PutStep.UnderFault store) P = P store

-- the fault of a writer that failed
abbrev pub fault_of : Option ℕ → Failed → PutStep
fault_of worker Block = PutStep.TierFault (number_of worker)
fault_of worker (Object store) = PutStep.UnderFault store
