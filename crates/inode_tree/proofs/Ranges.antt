-- The entries of a path and of all below it, in a list in the order of the paths.
use Rattle.std.proofs.Common.{◌≡◌, ℕ, ◌+◌, ◌-◌, ◌<◌, ◌≤◌, true, false, inl, inr, List, length, take, drop, get_or, sym, ◌∙◌, subst, arith}
use Rattle.std.specs.List.{AllWithin}
use Rattle.std.specs.List.Sorted.{IsPartitionedBy}
use Rattle.std.proofs.lemmas.Bool.{cases_lt}
use Rattle.std.proofs.lemmas.List.{length-drop, get_or-drop}
use Rattle.fs_model.specs.declared.path.Path.{Path}
use Rattle.fs_model.specs.Equal.{names_cmp_total}
use Rattle.fs_model.specs.State.{NodeRow}
use Rattle.fs_model.specs.Words.{path_lt, under}
use Rattle.fs_model.specs.Lookups.{child_name, names_in}
use Rattle.inode_tree.specs.declared.entry.Entry.{Entry}
use Rattle.inode_tree.specs.Entries.{node_row, node_rows, in_order}
use Rattle.inode_tree.proofs.Rising.{rises, is_sorted-drop, skip_front, skip_end}
use Rattle.inode_tree.proofs.PathOrder.{no_child_before, no_child_apart, under_between}

-- from the place of a path on no entry comes before it
not_before_from : (p : Path) (es : List Entry) (i : ℕ) → AllWithin (λ e. path_lt e.path p ≡ false) es i (length es) → (k : ℕ) (d : Entry) → k < length (drop i es) → path_lt (get_or (drop i es) k d).path p ≡ false
not_before_from p es i after k d within =
    let long : length (drop i es) ≡ length es - i = length-drop i es in
    subst (λ e. path_lt e.path p ≡ false) (sym (get_or-drop i es k d)) (after (i + k) d (omega arith) (omega arith))

-- from the place of a path on, those under it come first
pub under_first : (p : Path) (es : List Entry) (i : ℕ) → in_order es ≡ true → AllWithin (λ e. path_lt e.path p ≡ false) es i (length es) → IsPartitionedBy (λ e. under e.path p) (drop i es)
under_first p es i ordered after j k d le within later = elim (cases_lt j k) [
  | inl lt ↦ under_between p (get_or (drop i es) j d).path (get_or (drop i es) k d).path (not_before_from p es i after j d (omega arith))
      (rises names_cmp_total node_row (drop i es) j k d (is_sorted-drop names_cmp_total node_row i es ordered) lt within) later
  | inr ge ↦ let same : k ≡ j = omega arith in subst (λ m. under (get_or (drop i es) m d).path p ≡ true) same later
]

-- and all the names right below it are there
pub names_there : (p : Path) (es : List Entry) (i n : ℕ) → i ≤ length es → AllWithin (λ e. path_lt e.path p ≡ true) es 0 i → AllWithin (λ e. under e.path p ≡ false) (drop i es) n (length (drop i es)) → names_in (node_rows (take n (drop i es))) p ≡ names_in (node_rows es) p
names_there p es i n within before apart =
    skip_end node_row (λ (r : NodeRow). child_name p r.0) (drop i es) n (λ k d low high. no_child_apart p _ (apart k d low high))
    ∙ skip_front node_row (λ (r : NodeRow). child_name p r.0) es i within (λ k d low high. no_child_before p _ (before k d low high))
