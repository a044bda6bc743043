use Rattle.std.proofs.Common.{◌≡◌, ◌++◌, map, drop}
use Rattle.cluster_core.specs.Begun.{fresh_book}
use Rattle.cluster_core.proofs.beginning.books_of.Given as goal

abbrev pub invariant-loop-sizes : goal.invariant-loop-sizes
invariant-loop-sizes l = l.books.items ++ map fresh_book (drop l.sizes-index l.tiers) ≡ map fresh_book l.tiers
