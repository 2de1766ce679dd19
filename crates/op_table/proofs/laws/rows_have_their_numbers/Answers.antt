use Rattle.op_table.proofs.Named.{own_number, numbered_row, name_is}
use Rattle.op_table.proofs.laws.rows_have_their_numbers.Goals as goal

pub returns-clause-own : goal.returns-clause-own
returns-clause-own c = own_number

pub returns-clause-number : goal.returns-clause-number
returns-clause-number c = numbered_row

pub returns-clause-name : goal.returns-clause-name
returns-clause-name c = name_is
