use Rattle.std.proofs.Common.{◌≡◌, ◌++◌, drop}
use Rattle.script_text.specs.Words.{names_word}
use Rattle.script_text.proofs.word.push_key_names.Given as goal

abbrev pub invariant-loop-name : goal.invariant-loop-name
invariant-loop-name l = l.out.items ++ names_word (drop l.name-index l.names) ≡ l.fn.out.items ++ names_word l.names
