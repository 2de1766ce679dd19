use Rattle.std.proofs.Common.{◌≡◌, ◌∙◌, ◌+◌, Bool, if◌then◌else◌, Some, None, refl, ap, subst}
use Rattle.reg_state.specs.declared.state.State.{State}
use Rattle.reg_state.specs.States.{store_of}
use Rattle.flow_rules.specs.KnownEdges.{goes_at, jumps_at}
use Rattle.flow_rules.specs.FlowBody.{body_of}
use Rattle.flow_rules.specs.Gaining.{Gains, GainsPart}
use Rattle.flow_rules.specs.Gathering.{Gains-none, Gains-one}
use Rattle.flow_rules.proofs.Added.{on_err}
use Rattle.flow_rules.proofs.Followed.{jumps_alone, jumps_and_next, jumps_part}
use Rattle.flow_rules.proofs.fn_flow.FnFlow.follow.Goals as goal

pub returns-in_err-step-clause-err : goal.returns-in_err-step-clause-err
returns-in_err-step-clause-err c =
    let b = body_of c.args.self.now in
    let e0 = c.args.edges.now in
    let e1 = c.step.new.edges in
    on_err c.from_residual-in_err-step.result
    (jumps_part b c.args.place (store_of c.args.s.now) e0 e1 (subst (λ (s : State). GainsPart e0 (jumps_at b c.args.place (store_of s)) e1) c.in_ok-state.ensures c.in_err-step.ensures.err))

pub returns-in_err-push-clause-err : goal.returns-in_err-push-clause-err
returns-in_err-push-clause-err c =
    let b = body_of c.args.self.now in
    let e0 = c.args.edges.now in
    let e1 = c.step.new.edges in
    on_err c.from_residual-in_err-push.result
    (rw c.in_err-push.ensures.err
    (jumps_alone b c.args.place (store_of c.args.s.now) e0 e1 (subst (λ (s : State). Gains e0 (jumps_at b c.args.place (store_of s)) e1) c.in_ok-state.ensures c.in_ok-step.ensures.ok)))

pub returns-in_ok-push-clause-ok : goal.returns-in_ok-push-clause-ok
returns-in_ok-push-clause-ok c =
    let b = body_of c.args.self.now in
    let e0 = c.args.edges.now in
    let e1 = c.step.new.edges in
    let next = store_of c.step.new.s in
    let on = c.in_ok-step.ensures.on ∙ ap (λ (on : Bool). if on then Some next else None) c.if-branch.true in
    let goes = subst (λ (s : State). goes_at b c.args.place (store_of s) ≡ Some next) c.in_ok-state.ensures on in
    jumps_and_next b c.args.place (store_of c.args.s.now) e0 e1 c.push.new.self (Some next) goes
    (subst (λ (s : State). Gains e0 (jumps_at b c.args.place (store_of s)) e1) c.in_ok-state.ensures c.in_ok-step.ensures.ok)
    (Gains-one e1 (record { target = c.args.place + 1; state = c.step.new.s }) next c.push.new.self c.in_ok-push.ensures.ok refl)

pub returns-else-branch-clause-ok : goal.returns-else-branch-clause-ok
returns-else-branch-clause-ok c =
    let b = body_of c.args.self.now in
    let e0 = c.args.edges.now in
    let e1 = c.step.new.edges in
    let next = store_of c.step.new.s in
    let on = c.in_ok-step.ensures.on ∙ ap (λ (on : Bool). if on then Some next else None) c.if-branch.false in
    let goes = subst (λ (s : State). goes_at b c.args.place (store_of s) ≡ None) c.in_ok-state.ensures on in
    jumps_and_next b c.args.place (store_of c.args.s.now) e0 e1 e1 None goes
    (subst (λ (s : State). Gains e0 (jumps_at b c.args.place (store_of s)) e1) c.in_ok-state.ensures c.in_ok-step.ensures.ok)
    (Gains-none e1)
