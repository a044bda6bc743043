-- The writer of a new file.
use Rattle.std.specs.Prelude.{ℕ, false, Some, None}
use Rattle.file_writer.specs.Writing.{Writing}
use Rattle.cluster_core.specs.declared.hand.Writer.{Writer}

-- a file's writer before it took any byte
abbrev pub no_bytes : {W : Type 0} → ℕ → ℕ → Writing W
no_bytes bs w = record { bs = bs; len = 0; worker = Some w; block = None; object = None }

-- the writer of a new file
abbrev pub new_writer : {W : Type 0} → ℕ → ℕ → ℕ → ℕ → Writer W
new_writer id w started bs = record { file = id; worker = w; started = started; bytes = no_bytes bs w; room = None; broken = false }
