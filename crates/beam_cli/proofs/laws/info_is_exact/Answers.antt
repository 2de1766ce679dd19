use Rattle.beam_cli.proofs.Printed.{info_printed}
use Rattle.beam_cli.proofs.laws.info_is_exact.Goals as goal

pub returns : goal.returns
returns c = info_printed c.reading_is_exact.ensures.exact
