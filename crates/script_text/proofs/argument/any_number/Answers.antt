use Rattle.std.proofs.Common.{rules}
use Rattle.script_text.proofs.Numbers.{is_text}
use Rattle.script_text.proofs.argument.any_number.Goals as goal

pub returns-in-Err : goal.returns-in-Err
returns-in-Err c = absurd (c.in-Err.ensures.cases.0 (is_text c.args.word.now (search rules)))
