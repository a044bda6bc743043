use Rattle.std.proofs.Common.{◌≡◌, ◌++◌, map}
use Rattle.std.specs.Vec.Iter.{into_iter_items}
use Rattle.master_state.specs.Kept.{entry_of_row}
use Rattle.master_state.proofs.kept.Kept.push_nodes.Given as goal

-- the entries so far, with those of the nodes to come
abbrev pub invariant-loop-node : goal.invariant-loop-node
invariant-loop-node l =
    l.entries.items ++ map (λ n. entry_of_row l.self.names.mounts n.path n.row) (into_iter_items l.node-iterator)
    ≡ l.fn.entries.items ++ map (λ n. entry_of_row l.self.names.mounts n.path n.row) l.fn.nodes.items
