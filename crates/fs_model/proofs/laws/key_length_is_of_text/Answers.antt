use Rattle.fs_model.proofs.TextLengths.{key_len-key_text}
use Rattle.fs_model.proofs.laws.key_length_is_of_text.Goals as goal

pub returns : goal.returns
returns c = key_len-key_text
