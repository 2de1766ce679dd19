use Rattle.reg_state.proofs.Joins.{joined_is_least}
use Rattle.reg_state.proofs.laws.joins_are_least.Goals as goal

pub returns : goal.returns
returns c = joined_is_least
