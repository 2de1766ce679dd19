use Rattle.action_rules.proofs.Classes.{plan_steady}
use Rattle.action_rules.proofs.laws.plans_are_steady.Goals as goal

pub returns : goal.returns
returns c = λ i ends p is. plan_steady i ends p (c.plans_are_of_rows.ensures i ends p is)
