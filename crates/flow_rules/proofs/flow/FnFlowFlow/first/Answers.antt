use Rattle.std.proofs.Common.{◌∙◌, ap}
use Rattle.std.proofs.lemmas.Result.{IfOk-weaker}
use Rattle.flow_rules.specs.KnownEdges.{first_known}
use Rattle.flow_rules.specs.Flow.{FitsBody, IsBelowState}
use Rattle.flow_rules.specs.FlowBody.{body_of}
use Rattle.flow_rules.proofs.Entering.{entry_fits, entry_below, entry_above}
use Rattle.flow_rules.proofs.flow.FnFlowFlow.first.Goals as goal

pub returns-clause-fit : goal.returns-clause-fit
unfolding FitsBody
returns-clause-fit c =
    let f = c.args.self.now in
    IfOk-weaker c.first_state.result _ _ (λ s is. entry_fits (body_of f) f.fits s (is ∙ ap first_known c.arity.ensures)) c.first_state.ensures

pub returns-clause-below : goal.returns-clause-below
unfolding IsBelowState
returns-clause-below c =
    let f = c.args.self.now in
    IfOk-weaker c.first_state.result _ _ (λ s is. entry_below (body_of f) f.fits s (is ∙ ap first_known c.arity.ensures)) c.first_state.ensures

pub returns-clause-above : goal.returns-clause-above
unfolding IsBelowState
returns-clause-above c =
    let f = c.args.self.now in
    IfOk-weaker c.first_state.result _ _ (λ s is. entry_above (body_of f) f.fits s (is ∙ ap first_known c.arity.ensures)) c.first_state.ensures
