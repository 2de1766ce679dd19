use Rattle.flow_rules.proofs.Accepting.{all_typed}
use Rattle.flow_rules.proofs.Running.{never_stuck}
use Rattle.flow_rules.proofs.run_laws.accepted_modules_never_get_stuck.Goals as goal

pub returns : goal.returns
returns c m split report = never_stuck (record {
  rows = c.plans_are_of_rows.ensures;
  arities = c.rows_have_their_roles.ensures.typed;
  leave = c.plans_leave_by_rules.ensures;
  targets = c.sound_calls_have_targets.ensures;
}) m split (all_typed c.functions_stand_in_their_code.ensures c.sound_functions_fit.ensures m split report)
