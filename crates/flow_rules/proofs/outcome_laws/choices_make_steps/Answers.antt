use Rattle.flow_rules.proofs.Exhibited.{steps_by}
use Rattle.flow_rules.proofs.outcome_laws.choices_make_steps.Goals as goal

pub returns : goal.returns
returns c = λ m s t choices is. steps_by m t s choices is
