use Rattle.std.proofs.Common.{arith}
use Rattle.node_main.proofs.Telling.{keeps, takes, takes_none}
use Rattle.node_main.proofs.real.write_piece.Goals as goal

pub returns-in-Ok : goal.returns-in-Ok
returns-in-Ok g c =
    record {
      some = (omega (arith, c.if-count-gt0.true), c.in-Ok.ensures.bound);
      taken = takes _ _ _ (g.met.W.SteadyWrite.steady c.args.out.now c.write.new.self) c.in-Ok.ensures.bytes;
      partly = tt;
    }

-- nothing was written, and that is no end
pub returns-in_default : goal.returns-in_default
returns-in_default g c =
    record {
      some = tt;
      taken = tt;
      partly = (c.in-Ok.count, takes _ _ _ (g.met.W.SteadyWrite.steady c.args.out.now c.write.new.self) c.in-Ok.ensures.bytes);
    }

pub returns-in_default-2 : goal.returns-in_default-2
returns-in_default-2 g c =
    let kept = keeps _ _ (g.met.W.SteadyWrite.steady c.args.out.now c.write.new.self) c.in_default.ensures.bytes in
    record { some = tt; taken = tt; partly = (0, takes_none _ _ c.args.piece.now kept) }
