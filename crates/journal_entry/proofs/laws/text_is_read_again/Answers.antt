use Rattle.journal_entry.proofs.TextLaws.{text_again}
use Rattle.journal_entry.proofs.laws.text_is_read_again.Goals as goal

pub returns : goal.returns
returns c = text_again
