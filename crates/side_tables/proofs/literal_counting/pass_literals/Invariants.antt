use Rattle.std.proofs.Common.{◌-◌}
use Rattle.bk_codec.specs.Reading.{many_at}
use Rattle.side_tables.specs.LiteralReading.{literal_at}
use Rattle.side_tables.proofs.LiteralShowing.{StillPasses}
use Rattle.side_tables.proofs.literal_counting.pass_literals.Given as goal

abbrev pub invariant-loop : goal.invariant-loop
invariant-loop l = StillPasses (many_at literal_at (l.count - l.counter) l.cur.rest) (many_at literal_at l.count l.bytes)
