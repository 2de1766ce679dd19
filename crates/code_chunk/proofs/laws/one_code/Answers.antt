use Rattle.code_chunk.proofs.One.{one_value}
use Rattle.code_chunk.proofs.laws.one_code.Goals as goal

pub returns : goal.returns
returns c = one_value
