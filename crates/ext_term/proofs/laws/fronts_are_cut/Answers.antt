use Rattle.ext_term.proofs.Steadiness.{file_fronts_are_cut}
use Rattle.ext_term.proofs.laws.fronts_are_cut.Goals as goal

pub returns : goal.returns
returns c = file_fronts_are_cut
