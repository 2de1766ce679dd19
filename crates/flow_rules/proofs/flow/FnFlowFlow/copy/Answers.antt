use Rattle.std.proofs.Common.{sym, subst}
use Rattle.std.proofs.lemmas.Result.{IfOk-weaker}
use Rattle.reg_state.specs.declared.state.State.{State}
use Rattle.reg_state.specs.States.{store_of, IsBelow}
use Rattle.reg_state.specs.Ordered.{reflexive}
use Rattle.flow_rules.specs.Flow.{IsBelowState}
use Rattle.flow_rules.proofs.flow.FnFlowFlow.copy.Goals as goal

pub returns-clause-below : goal.returns-clause-below
unfolding IsBelowState
returns-clause-below c =
    let s = c.args.s.now in
    IfOk-weaker c.copy_state.result _ _ (λ t is. subst (λ (u : State). IsBelow (store_of u) (store_of s)) (sym is) (reflexive (store_of s))) c.copy_state.ensures

pub returns-clause-above : goal.returns-clause-above
unfolding IsBelowState
returns-clause-above c =
    let s = c.args.s.now in
    IfOk-weaker c.copy_state.result _ _ (λ t is. subst (λ (u : State). IsBelow (store_of s) (store_of u)) (sym is) (reflexive (store_of s))) c.copy_state.ensures
