use Rattle.std.proofs.Common.{◌-◌}
use Rattle.side_tables.proofs.LiteralShowing.{StillPuts}
use Rattle.side_tables.proofs.literal_showing.show_literals.Given as goal

abbrev pub invariant-loop-number : goal.invariant-loop-number
invariant-loop-number l = StillPuts l.out.items l.number (l.count - l.number) l.cur.rest l.fn.out.items l.count l.fn.cur.rest
