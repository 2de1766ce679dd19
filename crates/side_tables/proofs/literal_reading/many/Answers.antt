use Rattle.std.proofs.lemmas.Result.{err_from_is_err_and}
use Rattle.bk_codec.specs.Reading.{many_at}
use Rattle.bk_codec.proofs.Loop.{goes_on, ends, is_done}
use Rattle.side_tables.specs.declared.refusal.SideRefusal.TheVariants.{NoMemory}
use Rattle.side_tables.specs.LiteralReading.{literal_at}
use Rattle.side_tables.proofs.literal_reading.many.Goals as goal

pub returns-in_err-literal : goal.returns-in_err-literal
returns-in_err-literal c =
    let p = err_from_is_err_and c.from_residual.result c.from_residual.ensures.1 in
    rw (p.1, p.2) (ends NoMemory literal_at c.loop.literals c.args.count c.loop.counter c.loop.cur.rest c.in_err-literal.field-0.0 (many_at literal_at c.args.count c.args.cur.now.rest) c.loop-test.true c.in_err-literal.ensures c.loop.invariant)

pub loop-preserved : goal.loop-preserved
loop-preserved c =
    rw c.in_ok-push.ensures.ok
    (goes_on literal_at c.loop.literals c.args.count c.loop.counter c.loop.cur.rest c.literal.new.cur.rest c.in_ok-literal.literal (many_at literal_at c.args.count c.args.cur.now.rest) c.loop-test.true c.in_ok-literal.ensures c.loop.invariant)

pub returns : goal.returns
returns c = is_done literal_at c.loop.literals c.args.count c.loop.counter c.loop.cur.rest (many_at literal_at c.args.count c.args.cur.now.rest) c.loop-test.false c.loop.invariant
