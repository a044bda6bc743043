-- The texts of a checkpoint's entries are as long as the machine counts them.
use Rattle.std.proofs.Common.{◌≡◌, ℕ, ◌+◌, ◌*◌, List, [], ◌∷◌, ◌++◌, map, length, Option, Some, None, refl, arith}
use Rattle.std.specs.Prelude.{sum_by}
use Rattle.std.specs.List.{flat_map}
use Rattle.std.proofs.lemmas.List.Sums.{sum_by-cons, sum_by-append}
use Rattle.fs_model.specs.PathLength.{path_len}
use Rattle.fs_model.specs.declared.path.Path.{Path}
use Rattle.fs_model.specs.State.{Names, Node, NodeRow, MountRow, PlanRow}
use Rattle.fs_model.specs.Lookups.{mount_at}
use Rattle.fs_model.specs.Changes.{entry_len}
use Rattle.fs_model.specs.NodesEvents.{node_entry_len, plan_entry_len, checkpoint_gate}
use Rattle.fs_model.specs.declared.change.Change.{Change}
use Rattle.journal_entry.specs.declared.entry.Entry.{Entry}
use Rattle.journal_entry.specs.EntryText.{entry_text}
use Rattle.journal_entry.specs.Meaning.{node_entry, row_entry, plan_entries, checkpoint_entries}
use Rattle.journal_entry.proofs.BodyLengths.{length-entry_text}

-- an entry with the gate before it
abbrev with_gate : Entry → ℕ
with_gate e = 1 + length (entry_text e)

length-node : (p : Path) (n : Node) → with_gate (node_entry p n) ≡ 1 + 27 + path_len p
length-node p Node.Directory = omega (arith, length-entry_text (node_entry p Node.Directory))
length-node p (Node.IsFile f) = omega (arith, length-entry_text (node_entry p (Node.IsFile f)))

length-row : (N : Names) (r : NodeRow) → with_gate (row_entry N r) ≡ node_entry_len N r
length-row N r = by (mount_at N r.0)
  where
    by : (m : Option MountRow) → with_gate (elim m [ None ↦ node_entry r.0 r.1 | Some m ↦ Entry.Mount r.0 m.store m.key 0 ]) ≡ elim m [ None ↦ 1 + 27 + path_len r.0 | Some m ↦ 1 + entry_len (Change.Mount r.0 m.store m.key 0) ]
    by None = length-node r.0 r.1
    by (Some m) = omega (arith, length-entry_text (Entry.Mount r.0 m.store m.key 0))

length-rows : (N : Names) (rows : List NodeRow) → sum_by with_gate (map (row_entry N) rows) ≡ sum_by (node_entry_len N) rows
length-rows N [] = refl
length-rows N (r ∷ rs) = omega (arith, sum_by-cons with_gate (row_entry N r) (map (row_entry N) rs), sum_by-cons (node_entry_len N) r rs, length-row N r, length-rows N rs)

abbrev leaf_len : Path → ℕ
leaf_len p = 1 + 15 + path_len p

length-leaves : (plan : ℕ) (ps : List Path) → sum_by with_gate (map (λ p. Entry.Leaf plan p) ps) ≡ sum_by leaf_len ps
length-leaves plan [] = refl
length-leaves plan (p ∷ ps) =
    omega (arith, sum_by-cons with_gate (Entry.Leaf plan p) (map (λ p. Entry.Leaf plan p) ps), sum_by-cons leaf_len p ps, length-entry_text (Entry.Leaf plan p), length-leaves plan ps)

length-plan : (r : PlanRow) → sum_by with_gate (plan_entries r) ≡ plan_entry_len r
length-plan r =
    omega (arith, sum_by-cons with_gate (Entry.Pending r.number r.kind r.path r.to) (map (λ p. Entry.Leaf r.number p) r.leaves), length-entry_text (Entry.Pending r.number r.kind r.path r.to), length-leaves r.number r.leaves)

length-plans : (rs : List PlanRow) → sum_by with_gate (flat_map plan_entries rs) ≡ sum_by plan_entry_len rs
length-plans [] = refl
length-plans (r ∷ rs) = omega (arith, sum_by-append with_gate (plan_entries r) (flat_map plan_entries rs), sum_by-cons plan_entry_len r rs, length-plan r, length-plans rs)

length-seen : (ws : List ℕ) → sum_by with_gate (map (λ w. Entry.Seen w) ws) ≡ 10 * length ws
length-seen [] = refl
length-seen (w ∷ ws) = omega (arith, sum_by-cons with_gate (Entry.Seen w) (map (λ w. Entry.Seen w) ws), length-entry_text (Entry.Seen w), length-seen ws)

pub length-checkpoint : (N : Names) → 9 + sum_by (λ e. 1 + length (entry_text e)) (checkpoint_entries N) ≡ checkpoint_gate N
length-checkpoint N =
    omega (
      arith,
      sum_by-cons with_gate (Entry.Next N.next_id N.next_plan) (map (row_entry N) N.nodes ++ (flat_map plan_entries N.plans ++ map (λ w. Entry.Seen w) N.seen)),
      sum_by-append with_gate (map (row_entry N) N.nodes) (flat_map plan_entries N.plans ++ map (λ w. Entry.Seen w) N.seen),
      sum_by-append with_gate (flat_map plan_entries N.plans) (map (λ w. Entry.Seen w) N.seen),
      length-entry_text (Entry.Next N.next_id N.next_plan),
      length-rows N N.nodes,
      length-plans N.plans,
      length-seen N.seen,
    )
