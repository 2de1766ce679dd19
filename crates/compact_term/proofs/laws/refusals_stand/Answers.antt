use Rattle.compact_term.proofs.Steadiness.{operand_refusals_stand}
use Rattle.compact_term.proofs.laws.refusals_stand.Goals as goal

pub returns : goal.returns
returns c = operand_refusals_stand
