use Rattle.std.proofs.Common.{◌<◌, length, Some, ap, rules, arith}
use Rattle.outside_mem.proofs.Fronts.{rest_ended, rest_given}
use Rattle.outside_mem.proofs.inputs.MemSourceSource.pull.Goals as goal

pub returns-clause-bytes : goal.returns-clause-bytes
returns-clause-bytes c =
    let source = c.args.self.now in
    let count = c.copy_front-count.result in
    let copied = rw c.deref.ensures.value at c.copy_front-count.ensures in
    record {
      few = search rules;
      given = ap Some (rest_given source.bytes.items c.copy_front-count.new.to source.at count copied.copied);
      ended = λ none some.
          let room : 0 < length c.args.buf.now = omega (arith, some, c.copy_front-count.auto.to) in
          rest_ended source.bytes.items source.at count (length c.args.buf.now) source.greatest_piece copied.count none room;
      kept = search rules;
    }
