use Rattle.side_tables.proofs.LineSteadiness.{line_refusals_stand}
use Rattle.side_tables.proofs.LiteralSteadiness.{literal_refusals_stand}
use Rattle.side_tables.proofs.laws.refusals_stand.Goals as goal

pub returns-clause-lines : goal.returns-clause-lines
returns-clause-lines c = line_refusals_stand

pub returns-clause-literals : goal.returns-clause-literals
returns-clause-literals c = literal_refusals_stand
