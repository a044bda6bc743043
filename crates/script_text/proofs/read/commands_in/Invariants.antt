use Rattle.std.proofs.Common.{◌≡◌, length}
use Rattle.script_text.specs.ScriptText.{lines_of, commands_of, read_script}
use Rattle.script_text.proofs.Lines.{with_front}
use Rattle.script_text.proofs.read.commands_in.Given as goal

abbrev pub invariant-loop-line : goal.invariant-loop-line
invariant-loop-line l = with_front l.commands.items (commands_of l.place (lines_of l.rest)) ≡ read_script l.text

abbrev pub decreases-loop-line : goal.decreases-loop-line
decreases-loop-line l = length l.rest
