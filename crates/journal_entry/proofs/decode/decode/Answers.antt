use Rattle.std.proofs.Common.{◌∙◌, ap, sym, arith, length}
use Rattle.std.proofs.lemmas.Option.{none-some}
use Rattle.journal_entry.specs.EntryText.{entry_text}
use Rattle.journal_entry.specs.Reading.{entry_at}
use Rattle.journal_entry.proofs.TextLaws.{text_found, found_text, text_again, begun_again}
use Rattle.journal_entry.proofs.decode.decode.Goals as goal

pub returns-in-Ok-clause-found : goal.returns-in-Ok-clause-found
returns-in-Ok-clause-found c = let x = c.in-Ok.found in found_text c.args.text.now x.0 x.1 (text_found c.args.text.now x.0 x.1 (λ i. omega (arith, c.type_inv.text i)) c.in-Ok.ensures)

pub returns-in-Ok-clause-only : goal.returns-in-Ok-clause-only
returns-in-Ok-clause-only c = λ e rest is h. sym c.in-Ok.ensures ∙ ap entry_at h ∙ text_again e rest is

pub returns-in-Err-NoEntry-clause-none : goal.returns-in-Err-NoEntry-clause-none
returns-in-Err-NoEntry-clause-none c = λ e n t. none-some (e, length (entry_text e)) (sym (rw c.in-Err-NoEntry.field-0-is at c.in-Err-NoEntry.ensures) ∙ begun_again c.args.text.now e n t)

pub returns-in-Err-NoEntry-clause-only : goal.returns-in-Err-NoEntry-clause-only
returns-in-Err-NoEntry-clause-only c = λ e rest is h. sym (rw c.in-Err-NoEntry.field-0-is at c.in-Err-NoEntry.ensures) ∙ ap entry_at h ∙ text_again e rest is
