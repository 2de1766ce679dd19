use Rattle.std.proofs.Common.{◌≡◌, ◌-◌, ◌+◌}
use Rattle.bk_codec.specs.Reading.{numbered_at}
use Rattle.bk_codec.proofs.Loop.{with_front}
use Rattle.index_tables.specs.Reading.{atom_at}
use Rattle.index_tables.proofs.reading.atoms.Given as goal

abbrev pub invariant-loop-i : goal.invariant-loop-i
invariant-loop-i l = with_front l.names (numbered_at atom_at (l.i + 1) (l.count - l.i) l.cur.rest) ≡ numbered_at atom_at 1 l.fn.count l.fn.cur.rest
