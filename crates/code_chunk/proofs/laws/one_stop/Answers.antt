use Rattle.code_chunk.proofs.One.{one_length}
use Rattle.code_chunk.proofs.laws.one_stop.Goals as goal

pub returns : goal.returns
returns c = one_length
