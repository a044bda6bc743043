use Rattle.std.proofs.Common.{cond, sym, ap, ◌∙◌}
use Rattle.tier_book.specs.Rows.{copied_of, is_block, with_flags}
use Rattle.tier_book.proofs.Order.{flag_step}
use Rattle.tier_book.proofs.row.set_flags.Goals as goal
use Rattle.tier_book.proofs.row.set_flags.Goals.{then-is_of, else-is_of}

pub loop-row-preserved : goal.loop-row-preserved
loop-row-preserved c = elim c.if-is_of.branch [
  | then-is_of w ↦
      flag_step c.args.file c.args.block c.args.flags c.args.rows.now c.loop-row.rows c.if-is_of.rows c.loop-row.row-index c.row-item.result w.set.new.self
      c.loop-row.invariant c.loop-row-test.true c.loop-row.auto.rows c.row-item.is
      (w.set.ensures ∙ ap (λ r. with_flags c.args.flags (copied_of r)) (sym c.row-item.is) ∙ ap (λ b. cond b (with_flags c.args.flags (copied_of c.row-item.result)) (copied_of c.row-item.result)) (sym (ap (λ r. is_block c.args.file c.args.block (copied_of r)) c.row-item.is ∙ sym c.is_of.ensures ∙ w.if-is_of.true))) w.rows-is
  | else-is_of w ↦
      flag_step c.args.file c.args.block c.args.flags c.args.rows.now c.loop-row.rows c.if-is_of.rows c.loop-row.row-index c.row-item.result _
      c.loop-row.invariant c.loop-row-test.true c.loop-row.auto.rows c.row-item.is
      (ap copied_of (sym c.row-item.is) ∙ ap (λ b. cond b (with_flags c.args.flags (copied_of c.row-item.result)) (copied_of c.row-item.result)) (sym (ap (λ r. is_block c.args.file c.args.block (copied_of r)) c.row-item.is ∙ sym c.is_of.ensures ∙ w.if-is_of.false))) w.rows-is
]
