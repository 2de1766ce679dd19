use Rattle.beam_module.proofs.Differ.{one_answer}
use Rattle.beam_module.proofs.laws.one_comparison.Goals as goal

pub returns : goal.returns
returns c = one_answer
