use Rattle.std.proofs.Common.{◌≡◌, ◌++◌, map, take, drop}
use Rattle.tier_book.specs.Rows.{copied_of, flagged}
use Rattle.tier_book.proofs.row.set_flags.Given as goal

-- the rows so far are as they are to be, and the others as they were
abbrev pub invariant-loop-row : goal.invariant-loop-row
invariant-loop-row l = map copied_of l.rows ≡ flagged l.file l.block l.flags (map copied_of (take l.row-index l.fn.rows)) ++ map copied_of (drop l.row-index l.fn.rows)
