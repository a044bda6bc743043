use Rattle.std.proofs.Common.{◌≡◌, ◌≤◌, ◌+◌, true, vec_len}
use Rattle.std.specs.Vec.{vec_capacity}
use Rattle.std.specs.Vec.Iter.{into_iter_items, into_iter_len}
use Rattle.inode_tree.specs.Rows.{put_all}
use Rattle.inode_tree.specs.Entries.{node_rows, in_order}
use Rattle.inode_tree.proofs.moves.put_entries.Given as goal

-- the entries to come are put over those so far, which have spare for them
abbrev pub invariant-loop-entry : goal.invariant-loop-entry
invariant-loop-entry l = record {
  nodes : put_all (node_rows (into_iter_items l.entry-iterator)) (node_rows l.entries.items) ≡ put_all (node_rows l.fn.moved.items) (node_rows l.fn.entries.items);
  order : in_order l.entries.items ≡ true;
  spare : vec_len l.entries + into_iter_len l.entry-iterator ≤ vec_capacity l.entries;
}
