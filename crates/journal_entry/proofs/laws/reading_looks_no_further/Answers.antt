use Rattle.journal_entry.proofs.TextLaws.{no_further}
use Rattle.journal_entry.proofs.laws.reading_looks_no_further.Goals as goal

pub returns : goal.returns
returns c = no_further
