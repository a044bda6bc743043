use Rattle.node_main.proofs.Telling.{gives, keeps}
use Rattle.node_main.proofs.real.read_file.Goals as goal

pub returns-in-Ok : goal.returns-in-Ok
returns-in-Ok g c =
    let read = c.in-Ok.ensures.bytes in
    record {
      few = c.in-Ok.ensures.bound.0;
      given = gives _ _ _ (g.met.F.SteadyRead.steady c.args.file.now c.read.new.self) read.0;
      ended = read.1;
      kept = tt;
    }

pub returns-in-Err : goal.returns-in-Err
returns-in-Err g c =
    record {
      few = tt;
      given = tt;
      ended = tt;
      kept = keeps _ _ (g.met.F.SteadyRead.steady c.args.file.now c.read.new.self) c.in-Err.ensures.bytes;
    }
