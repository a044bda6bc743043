use Rattle.std.proofs.Common.{◌≡◌, ◌-◌, length, nat_le}
use Rattle.std.specs.List.{range_with_len, find}
use Rattle.tier_book.specs.Rows.{free_at, fitting}
use Rattle.tier_book.proofs.book.Book.first_fit.Given as goal

-- the tier is among those to come
abbrev pub invariant-loop-tier : goal.invariant-loop-tier
invariant-loop-tier l = find (λ t. nat_le l.n (free_at l.self t)) (range_with_len l.tier (length l.self.sizes - l.tier)) ≡ fitting l.self l.n
