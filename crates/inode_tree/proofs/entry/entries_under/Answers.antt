use Rattle.std.proofs.Common.{rules, ◌≡◌, ◌-◌, length, take, drop, ap, ◌∙◌, subst, true, false, sym}
use Rattle.std.specs.List.{AllWithin}
use Rattle.std.specs.List.Sorted.{IsPartitionedBy}
use Rattle.std.proofs.lemmas.List.{take_rest}
use Rattle.std.proofs.lemmas.List.Sorted.{IsPartitionPoint-from_clause}
use Rattle.fs_model.specs.Words.{under, path_lt}
use Rattle.fs_model.specs.Lookups.{names_in}
use Rattle.inode_tree.specs.Entries.{node_rows}
use Rattle.inode_tree.proofs.Ranges.{under_first, names_there}
use Rattle.inode_tree.proofs.entry.entries_under.Goals as goal

pub returns : goal.returns
returns c =
    let es = c.args.entries.now in
    let p = c.args.path.now in
    let i = c.place_of.result in
    let n = c.partition_point-end.result in
    let whole : take (length es - i) (drop i es) ≡ drop i es = take_rest es i in
    let before : AllWithin (λ e. path_lt e.path p ≡ true) es 0 i = subst (λ q. AllWithin (λ e. path_lt e.path q ≡ true) es 0 i) c.as_slice.ensures.names c.place_of.ensures.before in
    let after : AllWithin (λ e. path_lt e.path p ≡ false) es i (length es) = subst (λ q. AllWithin (λ e. path_lt e.path q ≡ false) es i (length es)) c.as_slice.ensures.names c.place_of.ensures.after in
    let first : IsPartitionedBy (λ e. under e.path p) (take (length es - i) (drop i es)) = subst (λ xs. IsPartitionedBy (λ e. under e.path p) xs) (sym whole) (under_first p es i c.requires after) in
    let point = IsPartitionPoint-from_clause (λ e. under e.path p) _ _ c.partition_point-end.ensures.partitioned first (λ a r q k. search rules) in
    let apart : AllWithin (λ e. under e.path p ≡ false) (drop i es) n (length (drop i es)) = subst (λ xs. AllWithin (λ e. under e.path p ≡ false) xs n (length xs)) whole point.1 in
    ap (λ xs. names_in (node_rows (take n xs)) p) whole ∙ names_there p es i n c.place_of.ensures.within before apart
