use Rattle.code_chunk.proofs.Spelled.{code_shortest}
use Rattle.code_chunk.proofs.laws.canonical_code_is_shortest.Goals as goal

pub returns : goal.returns
returns c = code_shortest c.canonical_is_shortest.ensures
