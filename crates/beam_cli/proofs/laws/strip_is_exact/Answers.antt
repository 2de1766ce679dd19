use Rattle.beam_cli.proofs.Printed.{strip_printed}
use Rattle.beam_cli.proofs.laws.strip_is_exact.Goals as goal

pub returns : goal.returns
returns c = strip_printed c.reading_is_exact.ensures.exact
