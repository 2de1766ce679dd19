use Rattle.ext_term.proofs.Steadiness.{file_refusals_stand}
use Rattle.ext_term.proofs.laws.refusals_stand.Goals as goal

pub returns : goal.returns
returns c = file_refusals_stand
