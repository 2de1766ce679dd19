use Rattle.beam_cli.proofs.Printed.{canon_printed}
use Rattle.beam_cli.proofs.laws.canon_is_exact.Goals as goal

pub returns : goal.returns
returns c = canon_printed c.reading_is_exact.ensures
