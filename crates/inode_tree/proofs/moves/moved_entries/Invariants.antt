use Rattle.std.proofs.Common.{◌≡◌, ◌++◌, true, drop}
use Rattle.fs_model.specs.Changes.{moved_rows}
use Rattle.inode_tree.specs.Rows.{stays_short}
use Rattle.inode_tree.specs.Entries.{node_rows}
use Rattle.inode_tree.proofs.moves.moved_entries.Given as goal

-- the rows so far, with those of the entries to come, whose paths stay short
abbrev pub invariant-loop-entry : goal.invariant-loop-entry
invariant-loop-entry l = record {
  moved : node_rows l.moved.items ++ moved_rows l.upper l.to (node_rows (drop l.entry-index l.entries)) ≡ moved_rows l.upper l.to (node_rows l.entries);
  short : stays_short (node_rows (drop l.entry-index l.entries)) l.upper l.to ≡ true;
}
