use Rattle.bk_codec.proofs.Exact.{exact_whole}
use Rattle.side_tables.specs.declared.refusal.SideRefusal.TheVariants as refusals
use Rattle.side_tables.proofs.LineTables.{lines_agree}
use Rattle.side_tables.proofs.LiteralTables.{literals_exact}
use Rattle.side_tables.proofs.laws.reading_is_exact.Goals as goal

pub returns-clause-lines : goal.returns-clause-lines
returns-clause-lines c = exact_whole lines_agree refusals.Rest

pub returns-clause-literals : goal.returns-clause-literals
returns-clause-literals c = literals_exact
