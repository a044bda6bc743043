use Rattle.std.proofs.Common.{◌≡◌, ◌+◌, ◌++◌, ◌≤◌, map, vec_len, vec_capacity}
use Rattle.cluster_core.proofs.beginning.give_all.Given as goal

abbrev pub invariant-loop : goal.invariant-loop
invariant-loop g l =
    (l.counter + vec_len l.nodes ≡ l.end)
    × (vec_len l.shelf + vec_len l.nodes ≤ vec_capacity l.shelf)
    × (l.shelf.items ++ map (λ n. n.tiers) l.nodes.items ≡ l.fn.shelf.items ++ map (λ n. n.tiers) l.fn.nodes.items)
