use Rattle.journal_entry.proofs.TextLaws.{one_text}
use Rattle.journal_entry.proofs.laws.no_text_begins_another.Goals as goal

pub returns : goal.returns
returns c = one_text
