use Rattle.bk_codec.specs.Reading.{many_at}
use Rattle.side_tables.specs.LiteralReading.{literal_at}
use Rattle.side_tables.proofs.LiteralShowing.{passes_on}
use Rattle.side_tables.proofs.literal_counting.pass_literals.Goals as goal

pub loop-preserved : goal.loop-preserved
loop-preserved c =
    passes_on c.args.count c.loop.counter c.in_ok-sized.field-0.now c.loop.cur.rest c.sized.new.cur.rest (many_at literal_at c.args.count c.args.bytes.now) c.loop-test.true c.in_ok-sized.ensures c.loop.invariant
