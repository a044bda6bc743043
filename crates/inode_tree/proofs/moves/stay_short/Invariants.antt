use Rattle.std.proofs.Common.{◌≡◌, drop}
use Rattle.inode_tree.specs.Rows.{stays_short}
use Rattle.inode_tree.specs.Entries.{node_rows}
use Rattle.inode_tree.proofs.moves.stay_short.Given as goal

-- it is up to the entries to come
abbrev pub invariant-loop-entry : goal.invariant-loop-entry
invariant-loop-entry l = stays_short (node_rows (drop l.entry-index l.entries)) l.upper l.to ≡ stays_short (node_rows l.entries) l.upper l.to
