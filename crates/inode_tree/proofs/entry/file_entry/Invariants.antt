use Rattle.std.proofs.Common.{◌≡◌, drop}
use Rattle.inode_tree.specs.Rows.{file_row}
use Rattle.inode_tree.specs.Entries.{node_rows}
use Rattle.inode_tree.proofs.entry.file_entry.Given as goal

-- the file is among the entries to come
abbrev pub invariant-loop-entry : goal.invariant-loop-entry
invariant-loop-entry l = file_row (node_rows (drop l.entry-index l.entries)) l.id ≡ file_row (node_rows l.entries) l.id
