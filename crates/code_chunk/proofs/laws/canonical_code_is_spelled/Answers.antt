use Rattle.code_chunk.proofs.Spelled.{code_spelled}
use Rattle.code_chunk.proofs.laws.canonical_code_is_spelled.Goals as goal

pub returns : goal.returns
returns c = code_spelled c.canonical_is_spelled.ensures
