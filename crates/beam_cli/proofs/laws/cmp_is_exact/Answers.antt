use Rattle.beam_cli.proofs.Printed.{cmp_printed}
use Rattle.beam_cli.proofs.laws.cmp_is_exact.Goals as goal

pub returns : goal.returns
returns c = cmp_printed c.reading_is_exact.ensures.exact c.payloads_are_bytes.ensures c.names_are_exact.ensures.accepted c.comparison_tells_what_differs.ensures c.one_comparison.ensures
