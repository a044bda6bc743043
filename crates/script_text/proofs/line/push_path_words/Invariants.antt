use Rattle.std.proofs.Common.{◌≡◌, ◌++◌, drop, map}
use Rattle.script_text.specs.Words.{spaced, path_word}
use Rattle.script_text.proofs.line.push_path_words.Given as goal

abbrev pub invariant-loop-path : goal.invariant-loop-path
invariant-loop-path l = l.out.items ++ spaced (map path_word (drop l.path-index l.paths)) ≡ l.fn.out.items ++ spaced (map path_word l.paths)
