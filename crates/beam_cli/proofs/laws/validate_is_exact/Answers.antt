use Rattle.beam_cli.proofs.Printed.{validate_printed}
use Rattle.beam_cli.proofs.laws.validate_is_exact.Goals as goal

pub returns : goal.returns
returns c = validate_printed c.one_report.ensures c.modules_have_reports.ensures c.opening_is_exact.ensures
