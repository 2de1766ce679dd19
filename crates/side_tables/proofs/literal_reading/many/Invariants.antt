use Rattle.std.proofs.Common.{◌≡◌, ◌-◌}
use Rattle.bk_codec.specs.Reading.{many_at}
use Rattle.bk_codec.proofs.Loop.{with_front}
use Rattle.side_tables.specs.LiteralReading.{literal_at}
use Rattle.side_tables.proofs.literal_reading.many.Given as goal

abbrev pub invariant-loop : goal.invariant-loop
invariant-loop l = with_front l.literals (many_at literal_at (l.count - l.counter) l.cur.rest) ≡ many_at literal_at l.count l.fn.cur.rest
