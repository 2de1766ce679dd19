use Rattle.operand_text.proofs.Lengths.{operand_near}
use Rattle.operand_text.proofs.laws.canonical_is_near_its_text.Goals as goal

pub returns : goal.returns
returns c = operand_near c.canonical_numbers_are_short.ensures.number c.canonical_numbers_are_short.ensures.integer
