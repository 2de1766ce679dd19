use Rattle.side_tables.proofs.LineTables.{one_value}
use Rattle.side_tables.proofs.laws.one_table.Goals as goal

pub returns : goal.returns
returns c = one_value
