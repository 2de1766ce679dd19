use Rattle.std.proofs.Common.{◌+◌, arith}
use Rattle.bk_codec.specs.Reading.{numbered_at}
use Rattle.bk_codec.proofs.Counted.{counts_on}
use Rattle.index_tables.specs.Reading.{atom_at}
use Rattle.index_tables.proofs.reading.atoms.Goals as goal

pub loop-i-preserved : goal.loop-i-preserved
loop-i-preserved c =
    rw c.in_ok-push.ensures.ok (counts_on atom_at c.loop-i.names c.args.count c.loop-i.i (c.loop-i.i + 1) (c.loop-i.i + 1 + 1) c.loop-i.cur.rest c.next_atom.new.cur.rest c.in_ok-name.name
    (numbered_at atom_at 1 c.args.count c.args.cur.now.rest) c.loop-i-test.true (omega arith) c.in_ok-name.ensures c.loop-i.invariant)
