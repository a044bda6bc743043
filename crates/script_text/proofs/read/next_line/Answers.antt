use Rattle.std.proofs.Common.{arith, sym, ap, ◌∙◌, ◌∷◌}
use Rattle.std.proofs.lemmas.List.{take_rest}
use Rattle.script_text.specs.ScriptText.{lines_of}
use Rattle.script_text.proofs.Lines.{split_line, last_of, not_empty}
use Rattle.script_text.proofs.read.next_line.Goals as goal

pub returns-in-empty-clause-lines : goal.returns-in-empty-clause-lines
returns-in-empty-clause-lines c =
    last_of c.args.text.now _ _ _ (not_empty c.args.text.now (sym c.is_empty.ensures ∙ c.if-is_empty.false)) c.line_len.ensures.place c.split_at.ensures.front c.split_at.ensures.back (omega arith)

pub returns-in-len1-up-clause-lines : goal.returns-in-len1-up-clause-lines
returns-in-len1-up-clause-lines c =
    split_line c.args.text.now _ _ _ (not_empty c.args.text.now (sym c.is_empty.ensures ∙ c.if-is_empty.false)) c.line_len.ensures.place c.split_at.ensures.front c.split_at.ensures.back
    ∙ ap (λ x. c.split_at.result.0.now ∷ lines_of x) (sym (take_rest c.split_at.result.1.now 1))
