use Rattle.std.proofs.Common.{sym, subst}
use Rattle.reg_state.specs.States.{store_of}
use Rattle.action_rules.specs.Fitting.{Fits}
use Rattle.flow_rules.specs.Flow.{FitsBody, IsBelowState}
use Rattle.flow_rules.specs.FlowBody.{body_of}
use Rattle.flow_rules.proofs.Joined.{joined_fits}
use Rattle.flow_rules.proofs.flow.FnFlowFlow.join_into.Goals as goal

pub returns-clause-fit : goal.returns-clause-fit
unfolding FitsBody
returns-clause-fit c =
    let b = (body_of c.args.self.now).bounds in
    subst (Fits b) (sym c.join_into.ensures.joined) (joined_fits b (store_of c.args.a.now) (store_of c.args.b.now) c.requires.a c.requires.b)

pub returns-clause-above_first : goal.returns-clause-above_first
unfolding IsBelowState
returns-clause-above_first c = c.join_into.ensures.least.first

pub returns-clause-above_second : goal.returns-clause-above_second
unfolding IsBelowState
returns-clause-above_second c = c.join_into.ensures.least.second

pub returns-clause-least : goal.returns-clause-least
unfolding IsBelowState
returns-clause-least c = λ d fit first second. c.join_into.ensures.least.below (store_of d) first second

pub returns-clause-unchanged : goal.returns-clause-unchanged
unfolding IsBelowState
returns-clause-unchanged c = c.join_into.ensures.unchanged
