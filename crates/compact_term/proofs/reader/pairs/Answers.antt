use Rattle.std.proofs.lemmas.Result.{err_from_is_err_and}
use Rattle.bk_codec.specs.Reading.{many_at}
use Rattle.bk_codec.proofs.Loop.{goes_on, ends, is_done}
use Rattle.compact_term.specs.declared.refusal.OperandRefusal.TheVariants.{NoMemory}
use Rattle.compact_term.specs.Reading.{pair_at}
use Rattle.compact_term.proofs.reader.pairs.Goals as goal

pub returns-in_err-pair : goal.returns-in_err-pair
returns-in_err-pair c =
    let p = err_from_is_err_and c.from_residual.result c.from_residual.ensures.1 in
    rw (p.1, p.2) (ends NoMemory pair_at c.loop.list c.args.count c.loop.counter c.loop.cur.rest c.in_err-pair.field-0.0 (many_at pair_at c.args.count c.args.cur.now.rest) c.loop-test.true c.in_err-pair.ensures c.loop.invariant)

pub loop-preserved : goal.loop-preserved
loop-preserved c =
    rw c.in_ok-push.ensures.ok
    (goes_on pair_at c.loop.list c.args.count c.loop.counter c.loop.cur.rest c.pair.new.cur.rest c.in_ok-pair.pair (many_at pair_at c.args.count c.args.cur.now.rest) c.loop-test.true c.in_ok-pair.ensures c.loop.invariant)

pub returns : goal.returns
returns c = is_done pair_at c.loop.list c.args.count c.loop.counter c.loop.cur.rest (many_at pair_at c.args.count c.args.cur.now.rest) c.loop-test.false c.loop.invariant
