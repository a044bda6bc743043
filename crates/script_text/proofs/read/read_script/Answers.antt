use Rattle.std.proofs.Common.{List, Ok, sym, ap, ◌∙◌, subst}
use Rattle.std.proofs.lemmas.Result.{err_from_is_err_and}
use Rattle.script_text.specs.declared.script.Command.{Command}
use Rattle.script_text.specs.ScriptText.{Fails}
use Rattle.script_text.proofs.Found.{IsScript, script_found}
use Rattle.script_text.proofs.Again.{script_again}
use Rattle.script_text.proofs.Canonical.{canonical_again}
use Rattle.script_text.proofs.read.read_script.Goals as goal

pub returns-in_err-commands_in-clause-only : goal.returns-in_err-commands_in-clause-only
returns-in_err-commands_in-clause-only c = λ script is.
    let q = err_from_is_err_and c.from_residual.result c.from_residual.ensures.1 in
    rw (q.1, q.2) (subst (Fails c.in_err-commands_in.field-0.0) (script_again c.args.text.now script is) c.in_err-commands_in.ensures)

pub returns-in_err-commands_in-clause-again : goal.returns-in_err-commands_in-clause-again
returns-in_err-commands_in-clause-again c = λ script fine few text.
    let q = err_from_is_err_and c.from_residual.result c.from_residual.ensures.1 in
    rw (q.1, q.2) (subst (Fails c.in_err-commands_in.field-0.0) (canonical_again c.args.text.now script fine few text) c.in_err-commands_in.ensures)

pub returns-clause-found : goal.returns-clause-found
returns-clause-found c = subst (IsScript c.args.text.now) (sym c.from_vec.ensures) (script_found c.args.text.now _ c.in_ok-commands_in.ensures)

pub returns-clause-only : goal.returns-clause-only
returns-clause-only c = λ script is. sym (script_again c.args.text.now script is) ∙ c.in_ok-commands_in.ensures ∙ ap (λ (x : List Command). Ok x) (sym c.from_vec.ensures)

pub returns-clause-again : goal.returns-clause-again
returns-clause-again c = λ script fine few text. sym (canonical_again c.args.text.now script fine few text) ∙ c.in_ok-commands_in.ensures ∙ ap (λ (x : List Command). Ok x) (sym c.from_vec.ensures)
