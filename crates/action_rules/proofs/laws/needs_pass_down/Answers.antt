use Rattle.std.proofs.Common.{[]}
use Rattle.action_rules.specs.Relating.{needs_pass, kinds_related}
use Rattle.action_rules.proofs.laws.needs_pass_down.Goals as goal

pub returns : goal.returns
returns c = λ list s t below met. needs_pass kinds_related list [] [] s t below met
