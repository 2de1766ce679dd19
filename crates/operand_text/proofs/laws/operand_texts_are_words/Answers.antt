use Rattle.operand_text.proofs.Words.{operand_passes, operand_some}
use Rattle.operand_text.proofs.laws.operand_texts_are_words.Goals as goal

pub returns : goal.returns
returns c = record { bytes = operand_passes; some = operand_some }
