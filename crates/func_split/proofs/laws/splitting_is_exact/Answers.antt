use Rattle.func_split.proofs.Exact.{split_accepts, split_refuses}
use Rattle.func_split.proofs.laws.splitting_is_exact.Goals as goal

pub returns-clause-accepted : goal.returns-clause-accepted
returns-clause-accepted c = split_accepts

pub returns-clause-refused : goal.returns-clause-refused
returns-clause-refused c = split_refuses
