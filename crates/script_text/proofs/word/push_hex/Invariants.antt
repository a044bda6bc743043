use Rattle.std.proofs.Common.{◌≡◌, ◌++◌, drop}
use Rattle.script_text.specs.Words.{hex_word}
use Rattle.script_text.proofs.word.push_hex.Given as goal

abbrev pub invariant-loop-byte : goal.invariant-loop-byte
invariant-loop-byte l = l.out.items ++ hex_word (drop l.byte-index l.bytes) ≡ l.fn.out.items ++ hex_word l.bytes
