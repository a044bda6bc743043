use Rattle.fs_model.proofs.TextLengths.{number_text-decimal}
use Rattle.fs_model.proofs.laws.number_text_is_decimal.Goals as goal

pub returns : goal.returns
returns c = number_text-decimal
