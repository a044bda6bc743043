-- What writing an area anew leaves: its head gate is closed, all behind it is written, and the head gate is opened.
use Rattle.std.specs.Prelude.{◌≡◌, ◌⊎◌, ℕ, ◌≤◌, Bool, List, ◌∷◌, ◌++◌, length, take, slice_index, None}
use Rattle.outside.specs.History.{History, IsOutside, Moment, Since, overwritten}
use Rattle.journal_disk.specs.AreaText.{head_of, is_shut}
use Rattle.journal_disk.specs.Journaling.{IsAtRest}

-- ---- closing
-- an area at rest, and whether its head gate is there and closed
pub record IsKnown (shut : Bool) (m : Moment) : Type 0 where
  pub rest : IsAtRest m
  pub closed : is_shut m.held ≡ shut

-- the area is closed, or it is under the head that it had
abbrev pub KeepsHead : List ℕ → List ℕ → Type 0
KeepsHead bytes c = (head_of c ≡ None) ⊎ (head_of c ≡ head_of bytes)

-- the head gate is closed in every image
pub record IsShut (m : Moment) : Type 0 where
  pub long : 1 ≤ length m.synced
  pub zero : slice_index m.synced 0 ≡ 0
  pub outside : IsOutside m.written 0

-- and for reads
pub record IsClosed (m : Moment) : Type 0 where
  pub shut : IsShut m
  pub long : 1 ≤ length m.held
  pub zero : slice_index m.held 0 ≡ 0

-- ---- writing behind a closed head gate
-- so much of the text is written from place 1 on, and the head gate was closed at every moment
pub record IsWriting (text : List ℕ) (at : ℕ) (s x : History) : Type 0 where
  pub since : Since s x IsShut
  pub shut : IsShut x.now
  pub held : x.now.held ≡ overwritten 1 (take at text) s.now.held

-- ---- the whole
-- the area is closed, under its old head, or open with this text behind its head gate
abbrev pub Replaces : List ℕ → List ℕ → List ℕ → Type 0
Replaces text bytes c = KeepsHead bytes c ⊎ ((gate : ℕ) × (gate ≡ 0 → ⊥) × (rest : List ℕ) × (c ≡ gate ∷ (text ++ rest)))

-- the area is open with this text behind its head gate, and at rest
pub record IsReplaced (text : List ℕ) (m : Moment) : Type 0 where
  pub at_rest : IsAtRest m
  pub rest : List ℕ
  pub is : m.held ≡ 1 ∷ (text ++ rest)
