use Rattle.journal_entry.proofs.BodyLengths.{length-entry_text}
use Rattle.journal_entry.proofs.laws.texts_have_length.Goals as goal

pub returns : goal.returns
returns c = length-entry_text
