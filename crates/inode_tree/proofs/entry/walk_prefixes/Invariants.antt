use Rattle.std.proofs.Common.{◌≡◌}
use Rattle.fs_model.specs.Lookups.{walk_above}
use Rattle.inode_tree.specs.Entries.{node_rows}
use Rattle.inode_tree.proofs.Walks.{rest_of}
use Rattle.inode_tree.proofs.entry.walk_prefixes.Given as goal

-- the walk from here on decides
abbrev pub invariant-loop-depth : goal.invariant-loop-depth
invariant-loop-depth l = rest_of (node_rows l.entries) l.names l.depth ≡ walk_above (node_rows l.entries) l.names
