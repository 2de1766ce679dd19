use Rattle.std.proofs.Common.{◌∙◌}
use Rattle.beam_module.proofs.Least.{min_is_lesser}
use Rattle.beam_module.proofs.comparison.lesser.Goals as goal

pub returns-in-Some : goal.returns-in-Some
returns-in-Some c = rw c.in-Some.is (c.min.ensures ∙ min_is_lesser c.args.id c.in-Some.other)
