-- What each piece leaves.
use Rattle.std.proofs.Common.{ℕ, ◌+◌, ◌≤◌, length, take, drop, IsTrue, sym, ◌∙◌, ap, subst, arith}
use Rattle.journal_disk.proofs.Anew.{stays_shut}
use Rattle.journal_disk.proofs.Counts.{counted_short, counted_long, one_call_more}
use Rattle.journal_disk.proofs.Shut.{piece_written}
use Rattle.journal_disk.proofs.closing.write_pieces.Goals as goal
use Rattle.journal_disk.proofs.closing.write_pieces.Goals.{then-text-at-lt-PIECE, else-text-at-lt-PIECE}

pub returns-in_err-write_at-clause-any_moment : goal.returns-in_err-write_at-clause-any_moment
returns-in_err-write_at-clause-any_moment g c = λ tells.
    let still = subst IsTrue (sym c.loop-at.invariant.tells) tells in
    stays_shut c.args.text.now _ c.loop-at.at _ _ _ c.write_at.result (c.loop-at.invariant.writing tells) (c.write_at.ensures.ok still) (c.write_at.ensures.err still)

pub loop-at-preserved : goal.loop-at-preserved
loop-at-preserved g c =
    let at = c.loop-at.at in
    let n = c.if-text-at-lt-PIECE.n in
    let text = c.args.text.now in
    let was = c.loop-at.invariant in
    let fits : at + n ≤ length text = elim c.if-text-at-lt-PIECE.branch [ then-text-at-lt-PIECE w ↦ omega (arith, w.n-is) | else-text-at-lt-PIECE w ↦ omega (arith, w.n-is, w.if-text-at-lt-PIECE.false) ] in
    record {
      within = fits;
      counted = elim c.if-text-at-lt-PIECE.branch [
        | then-text-at-lt-PIECE w ↦ counted_short at c.loop-at.count (length text) n was.counted c.loop-at-test.true w.n-is w.if-text-at-lt-PIECE.true
        | else-text-at-lt-PIECE w ↦ counted_long at c.loop-at.count (length text) n was.counted c.loop-at-test.true w.n-is
      ];
      writing = λ tells. piece_written text _ at n _ _ _ fits (c.requires.closed tells).long (ap (λ (k : ℕ). take k (drop at text)) (omega arith)) (was.writing tells) (c.in_ok-write_at.ensures.ok (subst IsTrue (sym was.tells) tells));
      tells = c.write_at.ensures.tells ∙ was.tells;
      spare = record {
        to = c.write_at.ensures.spare.to ∙ was.spare.to;
        bytes = c.write_at.ensures.spare.bytes ∙ was.spare.bytes;
        left = omega (arith, c.write_at.ensures.spare.calls, was.spare.left);
      };
      burns = one_call_more _ c.loop-at.count _ _ _ _ _ _ was.burns c.in_ok-write_at.ensures.burns;
    }
