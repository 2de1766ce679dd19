use Rattle.std.proofs.Common.{arith}
use Rattle.side_tables.proofs.LiteralCounting.{counted_is}
use Rattle.side_tables.proofs.literal_counting.count_literals.Goals as goal

pub returns : goal.returns
returns c =
    counted_is c.args.s.now c.word.new.cur.rest c.rest.result.now c.in_ok-word.field-0 c.in_ok-count.count
    (rw (← c.new-cur.ensures.rest) c.in_ok-word.ensures.read) (grind arith) (rw c.rest.ensures c.in_ok-count.ensures.read) c.in_ok-pass_literals.ensures.ok
