use Rattle.outside.proofs.Texts.{same_texts}
use Rattle.outside.proofs.key.KeyClone.clone.Goals as goal

pub returns : goal.returns
returns c = let same = same_texts _ _ _ c.in_ok-clone.ensures.cases.0 in record { cases = cc }
