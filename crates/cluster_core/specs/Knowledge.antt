-- What is known of files and reservations beside the rows of the core.
use Rattle.std.specs.Prelude.{ℕ, ◌≡◌, ◌<◌, ◌≤◌, List, Option, Some, IsSomeAnd, cond, nat_eq, ◌&&◌}
use Rattle.fs_model.specs.Lookups.{at_number}
use Rattle.tier_book.specs.Rows.{room_numbered}
use Rattle.cluster_core.specs.declared.node.Node.{Node}

-- an actor with one of its labels
abbrev pub Holder : Type 0
Holder = ℕ × List ℕ

-- the bytes of each file of which a done node or a label has them, the label that still writes a file, and the label for which a worker's reservation with a number is; of what has none of these nothing is claimed
pub record Knowledge : Type 0 where
  pub bytes_of : ℕ → Option (List ℕ)
  pub author : ℕ → Option Holder
  pub owner : ℕ → ℕ → Option Holder

-- the same with these bytes of one file
abbrev pub with_bytes : ℕ → List ℕ → Knowledge → Knowledge
with_bytes id bytes K = record K { bytes_of = λ n. cond (nat_eq id n) (Some bytes) (K.bytes_of n) }

-- the same with another author of one file, or none
abbrev pub with_author : ℕ → Option Holder → Knowledge → Knowledge
with_author id a K = record K { author = λ n. cond (nat_eq id n) a (K.author n) }

-- the same with another owner of one reservation, or none
abbrev pub with_owner : ℕ → ℕ → Option Holder → Knowledge → Knowledge
with_owner w n a K = record K { owner = λ v m. cond (nat_eq w v && nat_eq n m) a (K.owner v m) }

-- the worker, where it was started so often, has so many bytes reserved under the number
abbrev pub HasRoomOf : {S : Type 0} → List (Node S) → ℕ → ℕ → ℕ → ℕ → Type 0
HasRoomOf nodes w started n bytes = IsSomeAnd (at_number nodes w) (λ node. node.started ≡ started → IsSomeAnd (room_numbered n node.book.rooms) (λ r. r.bytes ≡ bytes))

-- what the label of any other holder rests on stays
pub record Leaves {S : Type 0} (a : Holder) (K N : Knowledge) (old new : List (Node S)) (before now : ℕ) : Type 0 where
  pub later : before ≤ now
  pub files : (id : ℕ) → id < before → (K.author id ≡ Some a → ⊥) → (N.bytes_of id ≡ K.bytes_of id) × (N.author id ≡ K.author id)
  pub owners : (w n : ℕ) (b : Holder) → K.owner w n ≡ Some b → (b ≡ a → ⊥) → N.owner w n ≡ Some b
  pub rooms : (w started n bytes : ℕ) (b : Holder) → K.owner w n ≡ Some b → (b ≡ a → ⊥) → HasRoomOf old w started n bytes → HasRoomOf new w started n bytes
