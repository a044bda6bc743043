use Rattle.std.proofs.Common.{◌≡◌, find}
use Rattle.slab.specs.Slab.{entries}
use Rattle.cluster_core.proofs.SlotRows.{labelled}
use Rattle.cluster_core.proofs.labels.key_of.Given as goal

-- the row is among the entries to come
abbrev pub invariant-loop-key : goal.invariant-loop-key
invariant-loop-key g l =
    (goal.iterator-loop-key g).can_next l.key-iterator ×
    (goal.iterator-loop-key g).is_finite l.key-iterator ×
    (find (labelled l.label) l.key-iterator ≡ find (labelled l.label) (entries l.rows))
