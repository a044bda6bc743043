-- What the tiers of a worker hold, and how a call on one of them changes the list of them.
use Rattle.std.specs.Prelude.{ℕ, ◌≡◌, ◌≤◌, ◌⊎◌, List, [], ◌∷◌, length, slice_get, IsSomeAnd, IsTrue, Some, option_map}
use Rattle.std.specs.Fmt.{decimal}
use Rattle.outside.specs.Keys.{KeyNames}
use Rattle.outside.specs.Causes.{Rose}
use Rattle.outside.specs.Contents.{IsCrossed, IsSame, is_short, put_at}
use Rattle.outside.specs.declared.objects.ObjectWrite as writes
use Rattle.outside.specs.declared.objects.Objects as objects

-- the key of the object with this number that a worker made since a start
abbrev pub object_key : ℕ → ℕ → KeyNames
object_key started number = decimal started ∷ decimal number ∷ []

-- both lists have such a store at this place, and R holds of the one before and the one after
abbrev pub At : {S : Type 0} → List S → List S → ℕ → (S → S → Type 0) → Type 0
At old new t R = IsSomeAnd (slice_get old t) (λ s. IsSomeAnd (slice_get new t) (λ u. R s u))

-- the store at one place changes so, and each other stays as it is
pub record ChangesAt {S : Type 0} (old new : List S) (t : ℕ) (R : S → S → Type 0) : Type 0 where
  pub same_length : length new ≡ length old
  pub at : At old new t R
  pub others : (j : ℕ) → (j ≡ t → ⊥) → slice_get new j ≡ slice_get old j

-- a store tells what it told and counts no change of an object, and its count of faults doesn't fall; it is steady as before
pub record Keeps {S R W : Type 0} (o : objects.Ghosts S R W) (old new : S) : Type 0 where
  pub told : o.told new ≡ o.told old
  pub changes : o.changes new ≡ o.changes old
  pub faults : o.faults old ≤ o.faults new
  pub steady : o.steady new ≡ o.steady old

-- the object of the key has the writer's bytes, where the store and the writer tell
pub record IsPut {S R W : Type 0} (o : objects.Ghosts S R W) (w : writes.Ghosts W) (writer : W) (key : KeyNames) (old new : S) : Type 0 where
  pub bytes : (bytes : List ℕ) → w.taken writer ≡ option_map (λ _. bytes) (o.told old) → IsSame (option_map (put_at key (Some bytes)) (o.told old)) (o.told new)
  pub faults : o.faults old ≤ o.faults new
  pub steady : o.steady new ≡ o.steady old

-- so it is, or the store tells what it told
pub record IsPutOrNot {S R W : Type 0} (o : objects.Ghosts S R W) (w : writes.Ghosts W) (writer : W) (key : KeyNames) (old new : S) : Type 0 where
  pub bytes : (bytes : List ℕ) → w.taken writer ≡ option_map (λ _. bytes) (o.told old) → IsSame (option_map (put_at key (Some bytes)) (o.told old)) (o.told new) ⊎ IsSame (o.told old) (o.told new)
  pub faults : o.faults old ≤ o.faults new
  pub steady : o.steady new ≡ o.steady old

-- the store counted a failure or a miss
abbrev pub Counts : {S R W : Type 0} → objects.Ghosts S R W → S → S → Type 0
Counts o old new = Rose (o.faults old) (o.faults new) ⊎ Rose (o.misses old) (o.misses new)

-- the store failed, or it counted a miss: it tells, and the key can't stand beside another's
abbrev pub IsFaultOrCrossed : {S R W : Type 0} → objects.Ghosts S R W → KeyNames → S → S → Type 0
IsFaultOrCrossed o key old new = Rose (o.faults old) (o.faults new) ⊎ Rose (o.misses old) (o.misses new) × IsCrossed (o.told old) key

-- the store failed, or it counted a miss: it tells, and the object of the key is absent or ends before this place
abbrev pub IsFaultOrShort : {S R W : Type 0} → objects.Ghosts S R W → KeyNames → ℕ → S → S → Type 0
IsFaultOrShort o key end old new = Rose (o.faults old) (o.faults new) ⊎ Rose (o.misses old) (o.misses new) × IsTrue (is_short (o.told old) key end)
