use Rattle.fs_model.proofs.TextLengths.{path_len-path_text}
use Rattle.fs_model.proofs.laws.path_length_is_of_text.Goals as goal

pub returns : goal.returns
returns c = path_len-path_text
