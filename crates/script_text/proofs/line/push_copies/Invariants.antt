use Rattle.std.proofs.Common.{◌≡◌, ◌++◌, drop, map}
use Rattle.script_text.specs.Words.{spaced}
use Rattle.script_text.specs.LineText.{copy_word}
use Rattle.script_text.proofs.line.push_copies.Given as goal

abbrev pub invariant-loop-row : goal.invariant-loop-row
invariant-loop-row l = l.out.items ++ spaced (map copy_word (drop l.row-index l.rows)) ≡ l.fn.out.items ++ spaced (map copy_word l.rows)
