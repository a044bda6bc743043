use Rattle.std.proofs.Common.{rules}
use Rattle.std.proofs.lemmas.List.Sorted.{IsPartitionPoint-from_clause}
use Rattle.fs_model.specs.Equal.{names_cmp_total}
use Rattle.fs_model.specs.Words.{path_lt}
use Rattle.inode_tree.specs.Entries.{node_row}
use Rattle.inode_tree.proofs.Rising.{parted}
use Rattle.inode_tree.proofs.entry.place_of.Goals as goal

pub returns-clause-before : goal.returns-clause-before
returns-clause-before c =
    let rising = parted names_cmp_total node_row c.args.names.now c.args.entries.now c.requires in
    (IsPartitionPoint-from_clause (λ e. path_lt e.path c.args.names.now) _ _ c.partition_point.ensures.partitioned rising (λ a r q k. search rules)).0

pub returns-clause-after : goal.returns-clause-after
returns-clause-after c =
    let rising = parted names_cmp_total node_row c.args.names.now c.args.entries.now c.requires in
    (IsPartitionPoint-from_clause (λ e. path_lt e.path c.args.names.now) _ _ c.partition_point.ensures.partitioned rising (λ a r q k. search rules)).1
