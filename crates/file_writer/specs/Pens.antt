-- What a pen has, takes and counts.
use Rattle.std.specs.Prelude.{ℕ, ◌≡◌, ◌≤◌, ◌+◌, ⊤, Bool, true, false, List, length, Option, None, Some, IfSome, is_some}
use Rattle.outside.specs.Streams.{Takes}
use Rattle.outside.specs.declared.objects.ObjectWrite as writes
use Rattle.file_writer.specs.declared.pen.Pen.{Pen}
use Rattle.file_writer.specs.declared.pen.Pen.TheVariants.{Open, Broken, Gone}

-- the pen of a writer that was given, or of none
abbrev pub pen_of : {W : Type 0} → Option W → Pen W
pen_of None = Gone
pen_of (Some writer) = Open writer

-- the writer that a pen has
abbrev pub writer_of : {W : Type 0} → Pen W → Option W
writer_of (Open writer) = Some writer
writer_of (Broken writer) = Some writer
writer_of Gone = None

-- how often the pen's writer has failed
abbrev pub pen_faults : {W : Type 0} → writes.Ghosts W → Pen W → ℕ
pen_faults w (Open writer) = w.faults writer
pen_faults w (Broken writer) = w.faults writer
pen_faults w Gone = 0

-- whether the pen's writer tells
abbrev pub pen_tells : {W : Type 0} → writes.Ghosts W → Pen W → Bool
pen_tells w (Open writer) = is_some (w.taken writer)
pen_tells w (Broken writer) = is_some (w.taken writer)
pen_tells w Gone = false

-- whether the pen's writer is steady, if it has one
abbrev pub is_pen_steady : {W : Type 0} → writes.Ghosts W → Pen W → Bool
is_pen_steady w (Open writer) = w.steady writer
is_pen_steady w (Broken writer) = w.steady writer
is_pen_steady w Gone = true

-- an open pen takes so many bytes more without memory
abbrev pub HasSpare : {W : Type 0} → writes.Ghosts W → ℕ → Pen W → Type 0
HasSpare w n (Open writer) = n ≤ w.spare writer
HasSpare w n (Broken writer) = ⊤
HasSpare w n Gone = ⊤

-- the pen takes no bytes any more
abbrev pub IsBroken : {W : Type 0} → Pen W → Type 0
IsBroken (Open writer) = ⊥
IsBroken (Broken writer) = ⊤
IsBroken Gone = ⊥

-- there is a writer, and it was open
abbrev pub IsOpen : {W : Type 0} → Pen W → Type 0
IsOpen (Open writer) = ⊤
IsOpen (Broken writer) = ⊥
IsOpen Gone = ⊥

-- the same pen, with its writer broken if it has one
abbrev pub broken : {W : Type 0} → Pen W → Pen W
broken (Open writer) = Broken writer
broken (Broken writer) = Broken writer
broken Gone = Gone

-- a writer took these bytes, after what it had taken
pub record WriterTakes {W : Type 0} (w : writes.Ghosts W) (bytes : List ℕ) (old new : W) : Type 0 where
  pub taken : Takes (w.taken old) (w.taken new) bytes
  pub written : w.written new ≡ w.written old + length bytes
  pub spare : w.spare old ≤ w.spare new + length bytes

-- an open pen took these bytes and is open still; any other is as it was
abbrev pub PenTakes : {W : Type 0} → writes.Ghosts W → List ℕ → Pen W → Pen W → Type 0
PenTakes w bytes (Open old) (Open new) = WriterTakes w bytes old new
PenTakes w bytes (Open old) (Broken new) = ⊥
PenTakes w bytes (Open old) Gone = ⊥
PenTakes w bytes (Broken old) new = new ≡ Broken old
PenTakes w bytes Gone new = new ≡ Gone

-- what a writer took and how often it failed is as before, and its spare no less
pub record WriterKeeps {W : Type 0} (w : writes.Ghosts W) (old new : W) : Type 0 where
  pub taken : w.taken new ≡ w.taken old
  pub written : w.written new ≡ w.written old
  pub faults : w.faults new ≡ w.faults old
  pub spare : w.spare old ≤ w.spare new

-- an open pen is open still and took nothing; any other is as it was
abbrev pub PenKeeps : {W : Type 0} → writes.Ghosts W → Pen W → Pen W → Type 0
PenKeeps w (Open old) (Open new) = WriterKeeps w old new
PenKeeps w (Open old) (Broken new) = ⊥
PenKeeps w (Open old) Gone = ⊥
PenKeeps w (Broken old) new = new ≡ Broken old
PenKeeps w Gone new = new ≡ Gone

-- where it tells, the writer has taken just these bytes
abbrev pub Tells : {W : Type 0} → writes.Ghosts W → List ℕ → W → Type 0
Tells w bytes writer = IfSome (w.taken writer) (λ told. told ≡ bytes)

-- the writer has taken these bytes, by its count and where it tells
pub record WriterHas {W : Type 0} (w : writes.Ghosts W) (bytes : List ℕ) (writer : W) : Type 0 where
  pub written : w.written writer ≡ length bytes
  pub told : Tells w bytes writer

-- an open pen has taken these bytes; a broken one has taken none that count
abbrev pub PenHas : {W : Type 0} → writes.Ghosts W → List ℕ → Pen W → Type 0
PenHas w bytes (Open writer) = WriterHas w bytes writer
PenHas w bytes (Broken writer) = ⊥
PenHas w bytes Gone = ⊤
