use Rattle.std.proofs.Common.{subst, ap, sym, ◌∙◌}
use Rattle.std.proofs.lemmas.Result.{err_from_is_err_and}
use Rattle.fs_model.specs.PathText.{Fails, read_path}
use Rattle.fs_model.proofs.Grammar.{read_again, read_found}
use Rattle.fs_model.proofs.path.Path.read.Goals as goal

pub invariant_of-result : goal.invariant_of-result
invariant_of-result c = (read_found c.args.text.now _ c.in_ok-names_in.ensures).0

pub returns-clause-found : goal.returns-clause-found
returns-clause-found c = read_found c.args.text.now _ c.in_ok-names_in.ensures

pub returns-clause-only : goal.returns-clause-only
returns-clause-only c = λ p is e. sym (ap read_path e ∙ read_again p is) ∙ c.in_ok-names_in.ensures

pub returns-in_err-names_in-clause-only : goal.returns-in_err-names_in-clause-only
returns-in_err-names_in-clause-only c = λ p is e.
    let q = err_from_is_err_and c.from_residual.result c.from_residual.ensures.1 in
    rw (q.1, q.2) (subst (Fails c.in_err-names_in.field-0.0) (ap read_path e ∙ read_again p is) c.in_err-names_in.ensures)
