use Rattle.std.proofs.Common.{◌∙◌, List, ap}
use Rattle.reg_state.specs.States.{store_of}
use Rattle.op_table.specs.declared.action.Action.{Action}
use Rattle.action_rules.specs.KindDomain.{kinds}
use Rattle.action_rules.specs.Steady.{needs_now}
use Rattle.flow_rules.proofs.Checked.{fails_before, fails_after, exit_is_left}
use Rattle.flow_rules.proofs.checking.plan_need.Goals as goal

pub returns-in-Some : goal.returns-in-Some
returns-in-Some c few =
    let s = store_of c.args.s.now in
    let before = c.in-Some.ensures few ∙ ap (λ (list : List Action). needs_now kinds list s) c.as_slice.ensures in
    fails_before c.args.plan.now c.args.has_next s c.requires c.in-Some.reason before

pub returns-in-Some-first_need : goal.returns-in-Some-first_need
returns-in-Some-first_need c few =
    let s = store_of c.args.s.now in
    let before = c.in_default.ensures few ∙ ap (λ (list : List Action). needs_now kinds list s) c.as_slice.ensures in
    let after = c.in-Some-first_need.ensures few ∙ ap (λ (list : List Action). needs_now kinds list s) c.as_slice-2.ensures in
    fails_after c.args.plan.now c.args.has_next s c.requires c.in-Some-first_need.reason before after

pub returns : goal.returns
returns c few =
    let s = store_of c.args.s.now in
    let before = c.in_default.ensures few ∙ ap (λ (list : List Action). needs_now kinds list s) c.as_slice.ensures in
    let after = c.in_default-first_need.ensures few ∙ ap (λ (list : List Action). needs_now kinds list s) c.as_slice-2.ensures in
    c.exit_need.ensures ∙ exit_is_left c.args.plan.now c.args.has_next s c.requires before after
