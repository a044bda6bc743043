use Rattle.std.proofs.Common.{◌≡◌, ◌++◌, map, drop}
use Rattle.inode_tree.specs.Rows.{path_row, row_told}
use Rattle.inode_tree.specs.Entries.{node_rows}
use Rattle.inode_tree.proofs.entry.rows_of.Given as goal

-- the rows so far, with those to come
abbrev pub invariant-loop-entry : goal.invariant-loop-entry
invariant-loop-entry l = map path_row l.rows.items ++ map row_told (node_rows (drop l.entry-index l.entries)) ≡ map row_told (node_rows l.entries)
