use Rattle.code_faults.proofs.Soundness.{has_plan}
use Rattle.code_faults.proofs.laws.sound_instructions_have_plans.Goals as goal

pub returns : goal.returns
returns c = has_plan
