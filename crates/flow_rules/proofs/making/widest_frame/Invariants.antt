use Rattle.std.proofs.Common.{◌≡◌, drop}
use Rattle.flow_rules.specs.Making.{widened_by, y_bound}
use Rattle.flow_rules.proofs.Widest.{all_actions}
use Rattle.flow_rules.proofs.making.widest_frame.Given as goal

abbrev pub invariant-plans : goal.invariant-plans
invariant-plans l = y_bound l.plans ≡ widened_by l.widest (all_actions (drop l.plan-index l.plans))
