use Rattle.op_table.proofs.Named.{named_row}
use Rattle.op_table.proofs.laws.names_find_their_rows.Goals as goal

pub returns : goal.returns
returns c = named_row
