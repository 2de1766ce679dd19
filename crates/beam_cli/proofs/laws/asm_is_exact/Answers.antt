use Rattle.beam_cli.proofs.Printed.{asm_printed}
use Rattle.beam_cli.proofs.laws.asm_is_exact.Goals as goal

pub returns : goal.returns
returns c = asm_printed c.reading_is_exact.ensures.accepted
