use Rattle.operand_text.proofs.Operands.{operand_inverts}
use Rattle.operand_text.proofs.laws.operands_invert.Goals as goal

pub returns : goal.returns
returns c = operand_inverts
