use Rattle.side_tables.proofs.LiteralTables.{one_value}
use Rattle.side_tables.proofs.laws.one_literal_table.Goals as goal

pub returns : goal.returns
returns c = one_value
