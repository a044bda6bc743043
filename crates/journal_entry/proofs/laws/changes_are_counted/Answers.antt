use Rattle.journal_entry.proofs.BodyLengths.{length-change}
use Rattle.journal_entry.proofs.laws.changes_are_counted.Goals as goal

pub returns : goal.returns
returns c = length-change
