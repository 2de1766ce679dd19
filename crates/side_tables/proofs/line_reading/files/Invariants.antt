use Rattle.std.proofs.Common.{◌≡◌, ◌-◌}
use Rattle.bk_codec.specs.Reading.{many_at}
use Rattle.bk_codec.proofs.Loop.{with_front}
use Rattle.side_tables.specs.LineReading.{file_at}
use Rattle.side_tables.proofs.line_reading.files.Given as goal

abbrev pub invariant-loop : goal.invariant-loop
invariant-loop l = with_front l.names (many_at file_at (l.count - l.counter) l.cur.rest) ≡ many_at file_at l.count l.fn.cur.rest
