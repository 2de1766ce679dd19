use Rattle.reg_state.specs.States.{store_of}
use Rattle.flow_rules.specs.Blocks.{numbered}
use Rattle.flow_rules.specs.FlowBody.{body_of}
use Rattle.flow_rules.proofs.Added.{on_err}
use Rattle.flow_rules.proofs.Followed.{all_jumps, failures_part, labels_part}
use Rattle.flow_rules.proofs.fn_flow.FnFlow.step.Goals as goal

pub returns-in_err-leave-clause-err : goal.returns-in_err-leave-clause-err
returns-in_err-leave-clause-err c =
    let b = numbered c.args.numbers.now (body_of c.args.self.now) in
    on_err c.from_residual-in_err-leave.result
    (failures_part b c.args.place c.plan-plan.result.now (store_of c.args.s.now) c.plan-plan.ensures (store_of c.enter.new.s) c.in_ok-enter.ensures c.args.edges.now c.leave.new.edges c.in_err-leave.ensures.err)

pub returns-in_err-goes_on-clause-err : goal.returns-in_err-goes_on-clause-err
returns-in_err-goes_on-clause-err c =
    let b = numbered c.args.numbers.now (body_of c.args.self.now) in
    on_err c.from_residual-in_err-goes_on.result
    (labels_part b c.args.place c.plan-plan.result.now (store_of c.args.s.now) c.plan-plan.ensures (store_of c.enter.new.s) c.in_ok-enter.ensures c.args.edges.now c.leave.new.edges c.go.new.edges c.in_ok-leave.ensures.ok
    c.in_err-goes_on.ensures.err)

pub returns-then-goes_on-clause-ok : goal.returns-then-goes_on-clause-ok
returns-then-goes_on-clause-ok c =
    let b = numbered c.args.numbers.now (body_of c.args.self.now) in
    all_jumps b c.args.place c.plan-plan.result.now (store_of c.args.s.now) c.plan-plan.ensures (store_of c.enter.new.s) c.in_ok-enter.ensures c.args.edges.now c.leave.new.edges c.go.new.edges c.in_ok-leave.ensures.ok
    c.in_ok-goes_on.ensures.ok

pub returns-else-goes_on-clause-ok : goal.returns-else-goes_on-clause-ok
returns-else-goes_on-clause-ok c =
    let b = numbered c.args.numbers.now (body_of c.args.self.now) in
    all_jumps b c.args.place c.plan-plan.result.now (store_of c.args.s.now) c.plan-plan.ensures (store_of c.enter.new.s) c.in_ok-enter.ensures c.args.edges.now c.leave.new.edges c.go.new.edges c.in_ok-leave.ensures.ok
    c.in_ok-goes_on.ensures.ok
