use Rattle.std.proofs.Common.{arith}
use Rattle.side_tables.proofs.LiteralTables.{found, only}
use Rattle.side_tables.proofs.literal_reading.read_literals.Goals as goal

pub returns-clause-found : goal.returns-clause-found
returns-clause-found c = found c.args.s.now c.whole_table.result (λ i. omega (arith, c.type_inv.s i)) c.whole_table.ensures

pub returns-clause-only : goal.returns-clause-only
returns-clause-only c = only c.args.s.now c.whole_table.result (λ i. omega (arith, c.type_inv.s i)) c.whole_table.ensures
