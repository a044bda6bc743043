use Rattle.std.proofs.Common.{◌≡◌, ◌++◌, drop, map}
use Rattle.script_text.specs.Words.{spaced, name_word}
use Rattle.script_text.proofs.line.push_name_words.Given as goal

abbrev pub invariant-loop-name : goal.invariant-loop-name
invariant-loop-name l = l.out.items ++ spaced (map name_word (drop l.name-index l.names)) ≡ l.fn.out.items ++ spaced (map name_word l.names)
