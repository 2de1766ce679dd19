use Rattle.std.proofs.lemmas.Result.{err_from_is_err_and}
use Rattle.side_tables.proofs.LiteralShowing.{puts_on, puts_none}
use Rattle.side_tables.proofs.literal_showing.show_literals.Goals as goal

pub returns-in_err-show_next : goal.returns-in_err-show_next
returns-in_err-show_next c =
    let p = err_from_is_err_and c.from_residual.result c.from_residual.ensures.1 in
    rw (p.1, p.2) (puts_none c.loop-number.out.items c.args.count c.loop-number.number c.loop-number.cur.rest c.args.out.now.items c.args.cur.now.rest c.in_err-show_next.field-0.0
    c.loop-number-test.true c.in_err-show_next.ensures c.loop-number.invariant)

pub loop-number-preserved : goal.loop-number-preserved
loop-number-preserved c =
    puts_on c.loop-number.out.items c.show_next.new.out.items c.args.count c.loop-number.number c.loop-number.cur.rest c.show_next.new.cur.rest c.args.out.now.items c.args.cur.now.rest
    c.loop-number-test.true c.in_ok-show_next.ensures c.loop-number.invariant
