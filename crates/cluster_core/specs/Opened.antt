-- A new block of a writer, in a reservation at its worker.
use Rattle.std.specs.Prelude.{ℕ, ◌≡◌, [], true, slice_get, Option, None, IsSomeAnd, option_map}
use Rattle.outside.specs.Causes.{Rose}
use Rattle.outside.specs.declared.objects.Objects as objects
use Rattle.outside.specs.declared.objects.ObjectWrite as writes
use Rattle.tier_book.specs.Rows.{fitting}
use Rattle.file_writer.specs.Parts.{is_object_steady, ObjectKeeps}
use Rattle.cluster_core.specs.Nodes.{HasSpace, IsAsBefore}
use Rattle.cluster_core.specs.Tiers.{ChangesAt, Keeps}
use Rattle.cluster_core.specs.declared.hand.Writer.{Writer}
use Rattle.cluster_core.specs.declared.node.Node.{Node}

module _ {S R W : Type 0} (o : objects.Ghosts S R W) where
  -- the worker has a reservation more, at the first tier that has so many bytes free; its tiers hold what they held
  abbrev pub Spaces : ℕ → ℕ → Node S → Node S → Type 0
  Spaces n len old new = IsSomeAnd (fitting old.book len) (λ t. HasSpace old new len n t × ChangesAt old.tiers.items new.tiers.items t (Keeps o))

  -- no tier of the worker has so many bytes free, and nothing has changed
  abbrev pub IsFull : ℕ → Node S → Node S → Type 0
  IsFull len old new = (fitting old.book len ≡ None) × (new ≡ old)

  -- the worker has what it had, and its tiers hold what they held
  abbrev pub KeepsNode : ℕ → Node S → Node S → Type 0
  KeepsNode len old new = IsAsBefore old new × IsSomeAnd (fitting old.book len) (λ t. ChangesAt old.tiers.items new.tiers.items t (Keeps o))

  -- so it is, and the tier that was to have the reservation failed
  abbrev pub FailsNode : ℕ → Node S → Node S → Type 0
  FailsNode len old new = KeepsNode len old new × IsSomeAnd (fitting old.book len) (λ t. ChangesAt old.tiers.items new.tiers.items t (λ s u. Rose (o.faults s) (o.faults u)))

  -- the tier that is to have a reservation of a worker tells where the writer that was begun there does
  abbrev pub TellsAt : ℕ → Option W → (w : writes.Ghosts W) → Node S → Type 0
  TellsAt len pen w node = IsSomeAnd (fitting node.book len) (λ t. IsSomeAnd (slice_get node.tiers.items t) (λ s. IsSomeAnd pen (λ p. w.taken p ≡ option_map (λ _. []) (o.told s))))

  -- where that tier is steady, the writer that was begun there is
  abbrev pub WritesAt : ℕ → Option W → (w : writes.Ghosts W) → Node S → Type 0
  WritesAt len pen w node = IsSomeAnd (fitting node.book len) (λ t. IsSomeAnd (slice_get node.tiers.items t) (λ s. IsSomeAnd pen (λ p. o.steady s ≡ true → w.steady p ≡ true)))

-- the writer is as it was, but for room that its object may have got
pub record SameBytes {W : Type 0} (w : writes.Ghosts W) (old new : Writer W) : Type 0 where
  pub fields : new ≡ record old { bytes = new.bytes }
  pub bytes : new.bytes ≡ record old.bytes { object = new.bytes.object }
  pub object : ObjectKeeps w old.bytes.object new.bytes.object
  pub steady : is_object_steady w new.bytes.object ≡ is_object_steady w old.bytes.object

-- the writer has an empty open block in a reservation, after what it took
pub record OpensBlock {W : Type 0} (w : writes.Ghosts W) (old new : Writer W) : Type 0 where
  pub fields : new ≡ record old { bytes = new.bytes; room = new.room }
  pub bytes : new.bytes ≡ record old.bytes { block = new.bytes.block; object = new.bytes.object }
  pub empty : IsSomeAnd new.bytes.block (λ b. b.len ≡ 0)
  pub object : ObjectKeeps w old.bytes.object new.bytes.object
  pub steady : is_object_steady w new.bytes.object ≡ is_object_steady w old.bytes.object
