use Rattle.std.proofs.Common.{◌+◌, arith}
use Rattle.std.proofs.lemmas.Result.{err_from_is_err_and}
use Rattle.bk_codec.specs.Reading.{numbered_at}
use Rattle.bk_codec.proofs.Counted.{counts_on, count_ends}
use Rattle.index_tables.specs.declared.refusal.TableRefusal.TheVariants as refusals
use Rattle.index_tables.specs.Reading.{entry_at}
use Rattle.index_tables.proofs.reading.entries.Goals as goal

pub returns-in_err-entry : goal.returns-in_err-entry
returns-in_err-entry g c =
    let p = err_from_is_err_and c.from_residual.result c.from_residual.ensures.1 in
    rw (p.1, p.2) (count_ends refusals.NoMemory (entry_at g.T.Entry.shape c.args.atoms.now) c.loop-i.entries c.args.count c.loop-i.i c.loop-i.i c.loop-i.cur.rest c.in_err-entry.field-0.0
    (numbered_at (entry_at g.T.Entry.shape c.args.atoms.now) 0 c.args.count c.args.cur.now.rest) c.loop-i-test.true c.in_err-entry.ensures c.loop-i.invariant)

pub loop-i-preserved : goal.loop-i-preserved
loop-i-preserved g c =
    rw c.in_ok-push.ensures.ok (counts_on (entry_at g.T.Entry.shape c.args.atoms.now) c.loop-i.entries c.args.count c.loop-i.i c.loop-i.i (c.loop-i.i + 1) c.loop-i.cur.rest c.next_entry.new.cur.rest c.in_ok-entry.entry
    (numbered_at (entry_at g.T.Entry.shape c.args.atoms.now) 0 c.args.count c.args.cur.now.rest) c.loop-i-test.true (omega arith) c.in_ok-entry.ensures c.loop-i.invariant)
