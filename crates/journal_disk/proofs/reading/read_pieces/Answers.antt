use Rattle.std.proofs.Common.{◌≡◌, ◌-◌, ◌≤◌, ◌++◌, length, take, drop, min, IsTrue, sym, ◌∙◌, subst, arith}
use Rattle.outside.specs.History.{History}
use Rattle.journal_disk.proofs.Fronts.{none_stays, read_more}
use Rattle.journal_disk.proofs.reading.read_pieces.Goals as goal

pub loop-at-preserved : goal.loop-at-preserved
loop-at-preserved g c =
    let was = c.loop-at.invariant.read in
    let now = c.read_at.ensures in
    let small : c.in_ok-len.len ≤ 18446744073709551615 = omega arith in
    record {
      read = record {
        tells = now.tells ∙ was.tells;
        history = now.history ∙ was.history;
        own = omega (arith, now.burns.later, was.own);
        fuse = λ none. none_stays _ _ now.burns.shorter (was.fuse none);
      };
      room = omega (arith, c.read_at.auto.buf, c.loop-at.invariant.room);
      whole = c.loop-at.invariant.whole;
      so_far = λ tells.
          let read = subst (λ (h : History). (c.in_ok-n.n ≡ min (length c.loop-at.piece) (length h.now.held - c.loop-at.at)) × (c.read_at.new.buf ≡ take c.in_ok-n.n (drop c.loop-at.at h.now.held) ++ drop c.in_ok-n.n c.loop-at.piece)) was.history
          (c.in_ok-n.ensures.bytes (subst IsTrue (sym was.tells) tells)) in
          read_more _ c.loop-at.bytes.items c.loop-at.piece c.read_at.new.buf c.extend_from_slice.new.self.items c.loop-at.at c.in_ok-n.n c.saturating_add-at.result c.in_ok-len.len (c.loop-at.invariant.whole tells) (c.loop-at.invariant.so_far tells) read c.in_ok-extend_from_slice.ensures.items c.saturating_add-at.ensures (omega (arith, c.loop-at-test.true)) small;
    }
