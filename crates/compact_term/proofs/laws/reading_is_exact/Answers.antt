use Rattle.bk_codec.proofs.Exact.{exact_front}
use Rattle.compact_term.proofs.Operands.{operand_agrees}
use Rattle.compact_term.proofs.laws.reading_is_exact.Goals as goal

pub returns : goal.returns
returns c = exact_front operand_agrees
