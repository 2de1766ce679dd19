use Rattle.reg_state.specs.Ordered.{reflexive, transitive, same}
use Rattle.reg_state.proofs.laws.states_are_ordered.Goals as goal

pub returns-clause-reflexive : goal.returns-clause-reflexive
returns-clause-reflexive c = reflexive

pub returns-clause-transitive : goal.returns-clause-transitive
returns-clause-transitive c = transitive

pub returns-clause-same : goal.returns-clause-same
returns-clause-same c = same
