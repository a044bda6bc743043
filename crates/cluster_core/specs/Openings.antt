-- What the core says of an actor's labels and of a worker where a label is to be made.
use Rattle.std.specs.Prelude.{ℕ, pred, Bool, List, slice_get, is_some, option_map, unwrap_or}
use Rattle.std.specs.Option.{option_and_then}
use Rattle.cluster_core.specs.LabelsView.{LabelsView, hand_in, count}
use Rattle.cluster_core.specs.Here.{configured_here, live_here}
use Rattle.cluster_core.specs.Tests.{Circumstance}
use Rattle.cluster_core.specs.declared.node.Node.{Node}

module _ {T : Type 0} where
  -- the actor has the label
  abbrev pub has_here : List (LabelsView T) → ℕ → List ℕ → Bool
  has_here labels who l = is_some (option_and_then (λ s. hand_in s l) (slice_get labels (pred who)))

  -- how many labels the actor has
  abbrev pub count_here : List (LabelsView T) → ℕ → ℕ
  count_here labels who = unwrap_or (option_map (λ s. count s) (slice_get labels (pred who))) 0

-- all of it
abbrev pub here : {S T : Type 0} → List (Node S) → List (LabelsView T) → ℕ → List ℕ → ℕ → Circumstance
here nodes labels who l w = record { taken = has_here labels who l; labels = count_here labels who; worker = w; configured = configured_here nodes w; live = live_here nodes w }
