use Rattle.side_tables.proofs.LineSteadiness.{line_fronts_are_cut}
use Rattle.side_tables.proofs.LiteralSteadiness.{literal_fronts_are_cut}
use Rattle.side_tables.proofs.laws.fronts_are_cut.Goals as goal

pub returns-clause-lines : goal.returns-clause-lines
returns-clause-lines c = line_fronts_are_cut

pub returns-clause-literals : goal.returns-clause-literals
returns-clause-literals c = literal_fronts_are_cut
