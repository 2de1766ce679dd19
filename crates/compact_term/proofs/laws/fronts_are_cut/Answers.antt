use Rattle.compact_term.proofs.Steadiness.{operand_fronts_are_cut}
use Rattle.compact_term.proofs.laws.fronts_are_cut.Goals as goal

pub returns : goal.returns
returns c = operand_fronts_are_cut
