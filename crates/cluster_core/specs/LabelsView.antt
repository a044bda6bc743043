-- What a contract sees of the labels of one actor.
use Rattle.std.specs.Prelude.{ℕ, ◌≡◌, Bool, true, List, length, Option, option_map, find, refl}
use Rattle.std.specs.Coded.{Coded, code_by, coded×, coded_ℕ, coded_bool, coded_list}
use Rattle.fs_model.specs.Words.{name_eq}

-- each label with its hand, and whether one more fits with no memory
pub record LabelsView (T : Type 0) : Type 0 where
  pub rows : List (List ℕ × T)
  pub has_room : Bool

-- labels are stored as the pair of the fields
abbrev pub labels_code : {T : Type 0} → Coded T → Coded (LabelsView T)
labels_code {T} code =
    code_by
    (List (List ℕ × T) × Bool)
    (coded× (coded_list (coded× (coded_list coded_ℕ) code)) coded_bool)
    (λ s. (s.rows, s.has_room))
    (λ p. record { rows = p.0; has_room = p.1 })
    (λ _. refl)

module _ {T : Type 0} where
  -- the hand under a label
  abbrev pub hand_in : LabelsView T → List ℕ → Option T
  hand_in s l = option_map (λ r. r.1) (find (λ (r : List ℕ × T). name_eq r.0 l) s.rows)

  -- how many labels there are
  abbrev pub count : LabelsView T → ℕ
  count s = length s.rows

  -- one label more fits with no memory
  abbrev pub HasRoom : LabelsView T → Type 0
  HasRoom s = s.has_room ≡ true
