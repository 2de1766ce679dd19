use Rattle.code_chunk.proofs.Spelled.{code_fits}
use Rattle.code_chunk.proofs.laws.code_has_fewer_instructions_than_bytes.Goals as goal

pub returns : goal.returns
returns c = code_fits
