use Rattle.std.proofs.Common.{◌≡◌, not, nat_eq, take, length}
use Rattle.std.specs.List.{filter}
use Rattle.tier_book.proofs.Order.{parted}
use Rattle.tier_book.proofs.row.move_last.Given as goal

-- of the rows so far those with another number stand first, and those with this one behind them
abbrev pub invariant-loop-place : goal.invariant-loop-place
invariant-loop-place l = record {
  passed : l.passed ≡ length (filter (λ r. not (nat_eq r.number l.number)) (take l.place l.fn.rows));
  rows : l.rows ≡ parted (λ r. nat_eq r.number l.number) l.fn.rows l.place;
}
