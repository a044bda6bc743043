use Rattle.std.proofs.Common.{◌≡◌, ◌+◌, ◌≤◌, vec_len, vec_capacity}
use Rattle.cluster_core.specs.Begun.{FitBooks, Moved}
use Rattle.cluster_core.proofs.beginning.move_all.Given as goal

abbrev pub invariant-loop : goal.invariant-loop
invariant-loop g l =
    (l.counter + vec_len l.books ≡ l.end)
    × (vec_len l.nodes + vec_len l.books ≤ vec_capacity l.nodes)
    × FitBooks l.books.items l.tiers.items
    × Moved l.fn.books.items l.fn.tiers.items l.fn.nodes.items l.books.items l.tiers.items l.nodes.items
    × (vec_capacity l.tiers ≡ vec_capacity l.fn.tiers)
