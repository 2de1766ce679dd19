use Rattle.flow_rules.proofs.Progress.{go_on}
use Rattle.flow_rules.proofs.run_laws.runs_go_on.Goals as goal

pub returns : goal.returns
returns c m states instrs run = go_on c.plans_have_a_way.ensures m instrs states run
