use Rattle.std.proofs.Common.{ap, sym, ◌∙◌}
use Rattle.fs_model.specs.KeyText.{read_key}
use Rattle.fs_model.proofs.KeyGrammar.{key_found, key_again}
use Rattle.fs_model.proofs.prefix.Prefix.read.Goals as goal

pub invariant_of-result : goal.invariant_of-result
invariant_of-result c = (key_found c.args.text.now c.in-Some.names.items (sym (rw c.in-Some.is at c.in_ok-names.ensures))).0

pub returns-clause-found : goal.returns-clause-found
returns-clause-found c = key_found c.args.text.now c.in-Some.names.items (sym (rw c.in-Some.is at c.in_ok-names.ensures))

pub returns-clause-only : goal.returns-clause-only
returns-clause-only c = λ k is e. rw c.in-Some.is at c.in_ok-names.ensures ∙ ap read_key e ∙ key_again k is

pub returns-in_default-clause-only : goal.returns-in_default-clause-only
returns-in_default-clause-only c = λ k is e. rw c.in_default.is at c.in_ok-names.ensures ∙ ap read_key e ∙ key_again k is
