use Rattle.beam_cli.proofs.Accepted.{file_is_safe}
use Rattle.beam_cli.proofs.laws.accepted_files_are_safe.Goals as goal

pub returns : goal.returns
returns c = file_is_safe c.modules_have_reports.ensures c.accepted_modules_never_get_stuck.ensures c.opening_is_exact.ensures
