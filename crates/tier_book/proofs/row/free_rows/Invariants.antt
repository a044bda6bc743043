use Rattle.std.proofs.Common.{map, take}
use Rattle.tier_book.specs.Rows.{copied_of}
use Rattle.tier_book.proofs.Tiers.{FreesRows}
use Rattle.tier_book.proofs.row.free_rows.Given as goal

-- the bytes of the rows so far are taken off
abbrev pub invariant-loop-row : goal.invariant-loop-row
invariant-loop-row l = FreesRows l.file l.block l.fn.taken l.taken (take l.row-index (map copied_of l.rows))
