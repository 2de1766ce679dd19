use Rattle.flow_rules.proofs.Told.{function_told, typing_found}
use Rattle.flow_rules.proofs.report_laws.rounds_find_reports.Goals as goal

pub returns-clause-typing : goal.returns-clause-typing
returns-clause-typing c = typing_found c.joins_are_least.ensures

pub returns-clause-report : goal.returns-clause-report
returns-clause-report c = function_told c.joins_are_least.ensures
