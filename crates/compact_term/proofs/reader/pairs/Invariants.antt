use Rattle.std.proofs.Common.{◌≡◌, ◌-◌}
use Rattle.bk_codec.specs.Reading.{many_at}
use Rattle.bk_codec.proofs.Loop.{with_front}
use Rattle.compact_term.specs.Reading.{pair_at}
use Rattle.compact_term.proofs.reader.pairs.Given as goal

abbrev pub invariant-loop : goal.invariant-loop
invariant-loop l = with_front l.list (many_at pair_at (l.count - l.counter) l.cur.rest) ≡ many_at pair_at l.count l.fn.cur.rest
