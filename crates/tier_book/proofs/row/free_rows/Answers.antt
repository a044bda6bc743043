use Rattle.std.proofs.Common.{sym, ◌∙◌}
use Rattle.tier_book.proofs.Tiers.{row_tier, row_taken, row_yes, row_no}
use Rattle.tier_book.proofs.row.free_rows.Goals as goal
use Rattle.tier_book.proofs.row.free_rows.Goals.{then-is_of, else-is_of}

pub give_bytes-requires-clause-tier : goal.give_bytes-requires-clause-tier
give_bytes-requires-clause-tier c = row_tier c.args.file c.args.block c.args.taken.now c.loop-row.taken c.args.rows.now c.loop-row.row-index c.row-item.result c.loop-row-test.true c.row-item.is c.loop-row.invariant c.requires.tiers c.requires.taken

pub give_bytes-requires-clause-taken : goal.give_bytes-requires-clause-taken
give_bytes-requires-clause-taken c =
    row_taken c.args.file c.args.block c.args.taken.now c.loop-row.taken c.args.rows.now c.loop-row.row-index c.row-item.result c.loop-row-test.true c.row-item.is c.loop-row.invariant c.requires.tiers c.requires.taken
    (sym c.is_of.ensures ∙ c.if-is_of.true)

pub loop-row-preserved : goal.loop-row-preserved
loop-row-preserved c = elim c.if-is_of.branch [
  | then-is_of w ↦
      row_yes c.args.file c.args.block c.args.taken.now c.loop-row.taken c.args.rows.now c.loop-row.row-index c.row-item.result c.loop-row-test.true c.row-item.is c.loop-row.invariant c.requires.tiers c.requires.taken
      c.if-is_of.taken (w.taken-is ∙ w.give_bytes.ensures) (sym c.is_of.ensures ∙ w.if-is_of.true)
  | else-is_of w ↦
      row_no c.args.file c.args.block c.args.taken.now c.loop-row.taken c.args.rows.now c.loop-row.row-index c.row-item.result c.loop-row-test.true c.row-item.is c.loop-row.invariant c.requires.tiers c.requires.taken
      c.if-is_of.taken w.taken-is (sym c.is_of.ensures ∙ w.if-is_of.false)
]
