use Rattle.journal_entry.proofs.CheckpointLengths.{length-checkpoint}
use Rattle.journal_entry.proofs.laws.checkpoint_is_counted.Goals as goal

pub returns : goal.returns
returns c = length-checkpoint
