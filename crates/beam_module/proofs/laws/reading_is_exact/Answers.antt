use Rattle.beam_module.proofs.Files.{file_is_exact}
use Rattle.beam_module.proofs.laws.reading_is_exact.Goals as goal

pub returns : goal.returns
returns c = file_is_exact c.reading_is_exact.ensures.exact c.reading_is_exact-2.ensures.exact
