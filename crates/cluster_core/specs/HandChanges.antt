-- How an event changes what an actor has under its labels.
use Rattle.std.specs.Prelude.{ℕ, ◌≡◌, ◌+◌, List, Some, None, if◌then◌else◌}
use Rattle.fs_model.specs.Words.{name_eq}
use Rattle.cluster_core.specs.LabelsView.{LabelsView, hand_in, count}

module _ {T : Type 0} where
  -- each label has what it had
  pub record KeepsHands (old new : LabelsView T) : Type 0 where
    pub hands : (l : List ℕ) → hand_in new l ≡ hand_in old l
    pub count : count new ≡ count old

  -- the label, which wasn't there, has this, and each other label what it had
  pub record AddsHand (l : List ℕ) (t : T) (old new : LabelsView T) : Type 0 where
    pub absent : hand_in old l ≡ None
    pub hands : (m : List ℕ) → hand_in new m ≡ (if name_eq l m then Some t else hand_in old m)
    pub count : count new ≡ count old + 1

  -- the label had one thing and has another, and each other label what it had
  pub record SetsHand (l : List ℕ) (t u : T) (old new : LabelsView T) : Type 0 where
    pub there : hand_in old l ≡ Some t
    pub hands : (m : List ℕ) → hand_in new m ≡ (if name_eq l m then Some u else hand_in old m)
    pub count : count new ≡ count old

  -- the label, which had this, is there no more, and each other label has what it had
  pub record EndsHand (l : List ℕ) (t : T) (old new : LabelsView T) : Type 0 where
    pub there : hand_in old l ≡ Some t
    pub hands : (m : List ℕ) → hand_in new m ≡ (if name_eq l m then None else hand_in old m)
    pub count : count old ≡ count new + 1
