use Rattle.std.proofs.Common.{◌≡◌, ◌∙◌, ◌++◌, List, [], Some, slice_get, sym, ap, subst}
use Rattle.label_fixpoint.specs.Cut.{spread}
use Rattle.label_fixpoint.specs.Typing.{typing_of}
use Rattle.code_faults.specs.declared.fault.Fault.{Fault}
use Rattle.code_faults.specs.Faults.{function_faults}
use Rattle.flow_rules.specs.declared.fn_flow.FnFlow.{FnFlow}
use Rattle.flow_rules.specs.Blocks.{cut_of, marks_in}
use Rattle.flow_rules.specs.FlowBody.{body_of}
use Rattle.flow_rules.specs.Lawful.{body_lawful}
use Rattle.flow_rules.specs.Making.{IsFlowOf, faults_of}
use Rattle.validator.proofs.Covered.{on_ok, typed_added}
use Rattle.validator.proofs.validating.add_report.Goals as goal

pub returns-clause-report : goal.returns-clause-report
returns-clause-report g c =
    let m = c.args.m.now in
    let i = c.args.i in
    let flow = c.in_ok-blocks.blocks.flow.now in
    let is = c.in_ok-blocks.ensures in
    let b = body_of flow in
    let u = typing_of c.in_ok-states.field-0.states in
    let t = spread (cut_of b (marks_in flow)) u in
    let numbered = subst (λ (f : FnFlow). (f.number ≡ i) × (slice_get m.code.functions i ≡ Some f.function)) (sym is) c.in-Ok.ensures.numbered in
    let made = subst (λ (f : FnFlow). (faults_of m i ≡ []) × IsFlowOf m i (body_of f)) (sym is) c.in-Ok.ensures.flow in
    let least = c.blocks_stand_for_places.ensures.least flow u c.in_ok-states.ensures.least in
    let faults = c.blocks_stand_for_places.ensures.faults flow u c.in_ok-states.ensures.least in
    let told = λ (sound : function_faults m i flow.function ≡ []). c.rounds_find_reports.ensures.report m i flow.function b t numbered.1 sound made.1 (body_lawful b flow.fits) least in
    on_ok c.add_blocks.result
    (λ added. typed_added m i flow.number flow.function b t c.args.report.now c.add_blocks.new.report numbered.0 numbered.1 made.0 made.1 least told (added ∙ ap (λ (xs : List Fault). c.args.report.now ++ xs) faults))
    c.add_blocks.ensures
