use Rattle.std.proofs.Common.{◌≡◌, ◌++◌}
use Rattle.percent_encoding.specs.Iter.{encoded_text}
use Rattle.percent_encoding.specs.Percent.{percent_encode}
use Rattle.script_text.specs.declared.word.TheConstants.{ESCAPED}
use Rattle.script_text.proofs.word.push_name_bytes.Given as goal

abbrev pub invariant-loop-piece : goal.invariant-loop-piece
invariant-loop-piece l = l.out.items ++ encoded_text l.piece-iterator ≡ l.fn.out.items ++ percent_encode ESCAPED l.name
