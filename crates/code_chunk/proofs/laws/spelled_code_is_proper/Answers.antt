use Rattle.code_chunk.proofs.Codes.{code_meets_type, code_proper}
use Rattle.code_chunk.proofs.laws.spelled_code_is_proper.Goals as goal

pub returns-clause-meets_type : goal.returns-clause-meets_type
returns-clause-meets_type c = code_meets_type

pub returns-clause-proper : goal.returns-clause-proper
returns-clause-proper c = code_proper
