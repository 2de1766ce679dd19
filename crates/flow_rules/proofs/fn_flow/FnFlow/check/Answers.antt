use Rattle.flow_rules.proofs.Checked.{steady_at}
use Rattle.flow_rules.proofs.fn_flow.FnFlow.check.Goals as goal

pub plan_need-requires : goal.plan_need-requires
plan_need-requires c = steady_at c.args.self.now.plans c.args.place c.plan.result.now c.args.self.now.steady c.plan.ensures
