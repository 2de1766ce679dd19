use Rattle.flow_rules.specs.Flow.{IsBelowState}
use Rattle.flow_rules.proofs.flow.FnFlowFlow.below.Goals as goal

pub returns : goal.returns
unfolding IsBelowState
returns c = c.below.ensures
