use Rattle.std.proofs.Common.{ap, ◌∙◌}
use Rattle.std.specs.List.{list_all}
use Rattle.journal_entry.specs.EntryText.{fits}
use Rattle.master_state.specs.Effect.{meaning}
use Rattle.master_state.proofs.Texts.{checkpoint_texts}
use Rattle.master_state.proofs.Again.{checkpoint_again}
use Rattle.master_state.proofs.names.Names.entries.Goals as goal

pub returns-clause-texts : goal.returns-clause-texts
returns-clause-texts c = ap (list_all fits) (c.from_vec.ensures ∙ c.in_ok-entries.ensures) ∙ checkpoint_texts c.self.inside.kept.names c.self.invariant.0

pub returns-clause-again : goal.returns-clause-again
returns-clause-again c = ap meaning (c.from_vec.ensures ∙ c.in_ok-entries.ensures) ∙ checkpoint_again c.self.inside.kept.names c.self.invariant.0 ∙ ap (λ n. n.names) c.self.view_is
