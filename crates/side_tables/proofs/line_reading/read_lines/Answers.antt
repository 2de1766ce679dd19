use Rattle.std.proofs.Common.{arith}
use Rattle.bk_codec.proofs.Ended.{found, only}
use Rattle.side_tables.specs.declared.refusal.SideRefusal.TheVariants as refusals
use Rattle.side_tables.proofs.LineTables.{lines_agree}
use Rattle.side_tables.proofs.line_reading.read_lines.Goals as goal

pub returns-clause-found : goal.returns-clause-found
returns-clause-found c = found lines_agree refusals.NoMemory refusals.Rest c.args.s.now c.whole_table.result (λ i. omega (arith, c.type_inv.s i)) c.whole_table.ensures

pub returns-clause-only : goal.returns-clause-only
returns-clause-only c = λ l is. only lines_agree refusals.NoMemory refusals.Rest c.args.s.now c.whole_table.result c.whole_table.ensures l is
