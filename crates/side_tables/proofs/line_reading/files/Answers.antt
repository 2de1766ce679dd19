use Rattle.std.proofs.lemmas.Result.{err_from_is_err_and}
use Rattle.bk_codec.specs.Reading.{many_at}
use Rattle.bk_codec.proofs.Loop.{goes_on, ends, is_done}
use Rattle.side_tables.specs.declared.refusal.SideRefusal.TheVariants.{NoMemory}
use Rattle.side_tables.specs.LineReading.{file_at}
use Rattle.side_tables.proofs.line_reading.files.Goals as goal

pub returns-in_err-name : goal.returns-in_err-name
returns-in_err-name c =
    let p = err_from_is_err_and c.from_residual.result c.from_residual.ensures.1 in
    rw (p.1, p.2) (ends NoMemory file_at c.loop.names c.args.count c.loop.counter c.loop.cur.rest c.in_err-name.field-0.0 (many_at file_at c.args.count c.args.cur.now.rest) c.loop-test.true c.in_err-name.ensures c.loop.invariant)

pub loop-preserved : goal.loop-preserved
loop-preserved c =
    rw c.in_ok-push.ensures.ok
    (goes_on file_at c.loop.names c.args.count c.loop.counter c.loop.cur.rest c.file.new.cur.rest c.in_ok-name.name (many_at file_at c.args.count c.args.cur.now.rest) c.loop-test.true c.in_ok-name.ensures c.loop.invariant)

pub returns : goal.returns
returns c = is_done file_at c.loop.names c.args.count c.loop.counter c.loop.cur.rest (many_at file_at c.args.count c.args.cur.now.rest) c.loop-test.false c.loop.invariant
