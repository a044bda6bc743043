use Rattle.std.proofs.Common.{◌≡◌, ◌++◌, drop}
use Rattle.fs_model.specs.Lookups.{names_in}
use Rattle.inode_tree.specs.Entries.{node_rows}
use Rattle.inode_tree.proofs.entry.children.Given as goal

-- the names so far, with those to come
abbrev pub invariant-loop-entry : goal.invariant-loop-entry
invariant-loop-entry l = l.names.items ++ names_in (node_rows (drop l.entry-index l.entries)) l.upper ≡ names_in (node_rows l.entries) l.upper
