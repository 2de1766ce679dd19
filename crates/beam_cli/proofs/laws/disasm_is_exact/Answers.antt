use Rattle.beam_cli.proofs.Printed.{disasm_printed}
use Rattle.beam_cli.proofs.laws.disasm_is_exact.Goals as goal

pub returns : goal.returns
returns c = disasm_printed c.reading_is_exact.ensures
