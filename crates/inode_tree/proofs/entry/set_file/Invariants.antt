use Rattle.std.proofs.Common.{◌≡◌, ◌++◌, take, drop}
use Rattle.inode_tree.specs.Rows.{file_in_row, file_changed}
use Rattle.inode_tree.specs.Entries.{node_rows}
use Rattle.inode_tree.proofs.entry.set_file.Given as goal

-- the entries so far are as they are to be, and those to come are still to be changed
abbrev pub invariant-loop-entry : goal.invariant-loop-entry
invariant-loop-entry l = node_rows (take l.entry-index l.entries) ++ file_changed l.row.id (λ f. file_in_row l.row) (node_rows (drop l.entry-index l.entries)) ≡ file_changed l.row.id (λ f. file_in_row l.row) (node_rows l.fn.entries)
