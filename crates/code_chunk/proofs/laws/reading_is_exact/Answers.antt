use Rattle.code_chunk.proofs.One.{code_is_exact}
use Rattle.code_chunk.proofs.Refused.{code_refused}
use Rattle.code_chunk.proofs.Wrong.{code_wrong}
use Rattle.code_chunk.proofs.laws.reading_is_exact.Goals as goal

pub returns-clause-exact : goal.returns-clause-exact
returns-clause-exact c = code_is_exact

pub returns-clause-refused : goal.returns-clause-refused
returns-clause-refused c = λ payload e fits. (code_wrong payload e fits, code_refused payload e)
