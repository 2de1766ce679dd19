use Rattle.compact_term.proofs.Fronts.{one_operand}
use Rattle.compact_term.proofs.laws.one_form.Goals as goal

pub returns : goal.returns
returns c = one_operand
