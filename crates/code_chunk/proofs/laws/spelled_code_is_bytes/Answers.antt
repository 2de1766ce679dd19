use Rattle.code_chunk.proofs.Bytes.{code_bytes}
use Rattle.code_chunk.proofs.laws.spelled_code_is_bytes.Goals as goal

pub returns : goal.returns
returns c = code_bytes
