use Rattle.std.proofs.Common.{◌∙◌, ◌++◌, List, sym, ap}
use Rattle.std.specs.Option.{option_to_list}
use Rattle.std.proofs.lemmas.List.{append-nil}
use Rattle.reg_state.specs.States.{store_of}
use Rattle.code_faults.specs.declared.fault.Fault.{Fault}
use Rattle.flow_rules.specs.Flow.{FitsBody}
use Rattle.flow_rules.specs.FlowBody.{body_of, need_at}
use Rattle.flow_rules.proofs.Checked.{need_listed}
use Rattle.flow_rules.proofs.fn_flow.FnFlow.add_fault.Goals as goal

pub returns-in_ok-push-clause-ok : goal.returns-in_ok-push-clause-ok
unfolding FitsBody
returns-in_ok-push-clause-ok c fit =
    let put = λ (faults : List Fault). c.args.out.now ++ faults in
    let told = need_listed c.args.self.now.number _ (need_at (body_of c.args.self.now) c.args.place (store_of c.args.s.now)) c.check.result (c.check.ensures fit) in
    c.in_ok-push.ensures.ok ∙ ap put (ap option_to_list (sym c.in-Some.is) ∙ told)

pub returns-in_default-clause-ok : goal.returns-in_default-clause-ok
unfolding FitsBody
returns-in_default-clause-ok c fit =
    let put = λ (faults : List Fault). c.args.out.now ++ faults in
    let told = need_listed c.args.self.now.number _ (need_at (body_of c.args.self.now) c.args.place (store_of c.args.s.now)) c.check.result (c.check.ensures fit) in
    sym (append-nil c.args.out.now) ∙ ap put (ap option_to_list (sym c.in_default.is) ∙ told)
