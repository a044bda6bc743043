use Rattle.std.proofs.Common.{nat_eq, sym, ◌∙◌, arith}
use Rattle.tier_book.specs.declared.row.BlockRow.{BlockRow}
use Rattle.tier_book.proofs.Freed.{differ, alike}
use Rattle.tier_book.proofs.Order.{parted_stays, parted_moves, parted_all}
use Rattle.tier_book.proofs.row.move_last.Goals as goal
use Rattle.tier_book.proofs.row.move_last.Goals.{then-rows-place, else-rows-place}

pub loop-place-preserved : goal.loop-place-preserved
loop-place-preserved c = elim c.if-rows-place.branch [
  | then-rows-place w ↦
      let moved = parted_moves (λ (r : BlockRow). nat_eq r.number c.args.number) c.args.rows.now c.loop-place.rows c.loop-place.place c.index-rows-place.result c.loop-place.invariant.rows c.loop-place-test.true
      c.if-rows-place.rows c.loop-place.passed (differ _ _ w.if-rows-place.true) c.loop-place.invariant.passed (w.rows-is ∙ w.move_forward.ensures) in
      record { passed = w.passed-is ∙ sym moved.0; rows = moved.1 }
  | else-rows-place w ↦
      let stays = parted_stays (λ (r : BlockRow). nat_eq r.number c.args.number) c.args.rows.now c.loop-place.rows c.loop-place.place c.index-rows-place.result c.loop-place.invariant.rows c.loop-place-test.true
      (alike _ _ w.if-rows-place.false) in
      record { passed = w.passed-is ∙ c.loop-place.invariant.passed ∙ sym stays.0; rows = w.rows-is ∙ stays.1 }
]

pub returns : goal.returns
returns c = parted_all c.args.number c.args.rows.now c.loop-place.rows c.loop-place.place c.loop-place.invariant.rows (omega arith)
