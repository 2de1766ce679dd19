use Rattle.std.proofs.lemmas.Result.{err_from_is_err_and}
use Rattle.side_tables.specs.LineReading.{places_at}
use Rattle.side_tables.proofs.LineLoop.{goes_on, ends, is_done}
use Rattle.side_tables.proofs.line_reading.places.Goals as goal

pub returns-in_err-place : goal.returns-in_err-place
returns-in_err-place c =
    let p = err_from_is_err_and c.from_residual.result c.from_residual.ensures.1 in
    rw (p.1, p.2) (ends c.args.files c.loop.file c.loop.items.item c.loop.places c.args.count c.loop.counter c.loop.items.rest c.in_err-place.field-0.0
    (places_at c.args.files c.args.count 0 c.args.items.now.item c.args.items.now.rest) c.loop-test.true c.in_err-place.ensures c.loop.invariant)

pub loop-preserved : goal.loop-preserved
loop-preserved c =
    rw c.in_ok-push.ensures.ok
    (goes_on c.args.files c.loop.file c.loop.items.item c.place.new.items.item c.loop.places c.args.count c.loop.counter c.loop.items.rest c.place.new.items.rest c.in_ok-place.place
    (places_at c.args.files c.args.count 0 c.args.items.now.item c.args.items.now.rest) c.loop-test.true c.in_ok-place.ensures c.loop.invariant)

pub returns : goal.returns
returns c =
    is_done c.args.files c.loop.file c.loop.items.item c.loop.places c.args.count c.loop.counter c.loop.items.rest
    (places_at c.args.files c.args.count 0 c.args.items.now.item c.args.items.now.rest) c.loop-test.false c.loop.invariant
