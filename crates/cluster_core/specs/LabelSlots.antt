-- The labels as a slab keeps them.
use Rattle.std.specs.Prelude.{ℕ, ◌≡◌, Bool, true, false, cond, List, [], ◌∷◌, map, nat_lt, Option, Some, None, slice_index_or}
use Rattle.slab.specs.Slab.{Slab, entries, slab_len}
use Rattle.fs_model.specs.Words.{name_eq}
use Rattle.cluster_core.specs.LabelsView.{LabelsView}
use Rattle.cluster_core.specs.declared.labels.Labelled.{Labelled}

module _ {T : Type 0} where
  -- the row with a label
  abbrev pub row_in : List (Option (Labelled T)) → List ℕ → Option (Labelled T)
  row_in [] l = None
  row_in (None ∷ rest) l = row_in rest l
  row_in (Some r ∷ rest) l = cond (name_eq r.label l) (Some r) (row_in rest l)

  -- both slots have a row, with the same label
  abbrev pub same_label : Option (Labelled T) → Option (Labelled T) → Bool
  same_label None b = false
  same_label (Some r) None = false
  same_label (Some r) (Some q) = name_eq r.label q.label

  -- no label is in two slots
  abbrev pub IsOnce : List (Option (Labelled T)) → Type 0
  IsOnce slots = (i j : ℕ) → same_label (slice_index_or slots i None) (slice_index_or slots j None) ≡ true → i ≡ j

  -- what a contract sees
  abbrev pub labels_of : Slab (Labelled T) → LabelsView T
  labels_of s = record {
    rows = map (λ e. (e.1.label, e.1.hand)) (entries s);
    has_room = nat_lt (slab_len s) s.capacity;
  }
