use Rattle.std.proofs.Common.{◌≡◌, take}
use Rattle.flow_rules.specs.Making.{handlers_of}
use Rattle.flow_rules.proofs.making.handlers_of.Given as goal

abbrev pub invariant-plans : goal.invariant-plans
invariant-plans l = l.handlers ≡ handlers_of (take l.plan-index l.plans)
