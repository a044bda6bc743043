use Rattle.std.proofs.Common.{◌≡◌, map, drop}
use Rattle.tier_book.specs.Rows.{copied_of, row_numbered}
use Rattle.tier_book.proofs.row.find_number.Given as goal

-- the row is among those to come
abbrev pub invariant-loop-row : goal.invariant-loop-row
invariant-loop-row l = row_numbered l.number (map copied_of (drop l.row-index l.rows)) ≡ row_numbered l.number (map copied_of l.rows)
