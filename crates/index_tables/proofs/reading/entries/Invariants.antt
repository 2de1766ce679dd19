use Rattle.std.proofs.Common.{◌≡◌, ◌-◌}
use Rattle.bk_codec.specs.Reading.{numbered_at}
use Rattle.bk_codec.proofs.Loop.{with_front}
use Rattle.index_tables.specs.Reading.{entry_at}
use Rattle.index_tables.proofs.reading.entries.Given as goal

abbrev pub invariant-loop-i : goal.invariant-loop-i
invariant-loop-i g l = with_front l.entries (numbered_at (entry_at g.T.Entry.shape l.atoms) l.i (l.count - l.i) l.cur.rest) ≡ numbered_at (entry_at g.T.Entry.shape l.atoms) 0 l.fn.count l.fn.cur.rest
