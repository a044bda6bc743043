-- What the core says of a stream's source.
use Rattle.std.specs.Prelude.{ℕ, ◌≡◌, Option, Some, None}
use Rattle.fs_model.specs.State.{Source}

-- the worker and the tier of a source, or none
abbrev pub MaySource : Option Source → Option (ℕ × ℕ) → Type 0
MaySource o None = o ≡ None
MaySource o (Some p) = o ≡ Some (Source.AtWorker p.0 p.1)
