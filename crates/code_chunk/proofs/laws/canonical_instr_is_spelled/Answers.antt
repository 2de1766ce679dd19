use Rattle.code_chunk.proofs.Spelled.{instr_spelled}
use Rattle.code_chunk.proofs.laws.canonical_instr_is_spelled.Goals as goal

pub returns : goal.returns
returns c = instr_spelled c.canonical_is_spelled.ensures
