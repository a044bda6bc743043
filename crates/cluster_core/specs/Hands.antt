-- The labels of one actor as the file machine lists them, beside what is kept of them.
use Rattle.std.specs.Prelude.{ℕ, ◌≡◌, Bool, true, not, ◌&&◌, List, [], ◌∷◌, length, Option}
use Rattle.fs_model.specs.State.{Hand, Hands}
use Rattle.fs_model.specs.Lookups.{hand_at, has_label}
use Rattle.cluster_core.specs.LabelsView.{LabelsView, hand_in, count}

-- no label is there twice
abbrev pub is_distinct : Hands → Bool
is_distinct [] = true
is_distinct (r ∷ H) = not (has_label H r.label) && is_distinct H

-- R of the label holds under each label, and there are as many labels, none of them twice
pub record Matches {T : Type 0} (R : List ℕ → Option Hand → Option T → Type 0) (H : Hands) (s : LabelsView T) : Type 0 where
  pub hands : (l : List ℕ) → R l (hand_at H l) (hand_in s l)
  pub counts : length H ≡ count s
  pub distinct : is_distinct H ≡ true
