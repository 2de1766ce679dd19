use Rattle.std.proofs.Common.{◌≡◌, drop}
use Rattle.flow_rules.specs.Making.{widened_by}
use Rattle.flow_rules.proofs.making.widened_by.Given as goal

abbrev pub invariant-actions : goal.invariant-actions
invariant-actions l = widened_by l.initial.widest l.actions ≡ widened_by l.widest (drop l.action-index l.actions)
