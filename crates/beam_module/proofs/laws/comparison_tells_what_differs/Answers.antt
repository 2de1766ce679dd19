use Rattle.beam_module.proofs.Differ.{comparison_tells}
use Rattle.beam_module.proofs.laws.comparison_tells_what_differs.Goals as goal

pub returns : goal.returns
returns c = comparison_tells
