use Rattle.std.proofs.lemmas.Result.{err_from_is_err_and}
use Rattle.bk_codec.specs.Reading.{many_at}
use Rattle.bk_codec.proofs.Loop.{goes_on, ends, is_done}
use Rattle.compact_term.specs.declared.refusal.OperandRefusal.TheVariants.{NoMemory}
use Rattle.compact_term.specs.Reading.{member_at}
use Rattle.compact_term.proofs.reader.members.Goals as goal

pub returns-in_err-plain : goal.returns-in_err-plain
returns-in_err-plain c =
    let p = err_from_is_err_and c.from_residual.result c.from_residual.ensures.1 in
    rw (p.1, p.2) (ends NoMemory member_at c.loop.list c.args.count c.loop.counter c.loop.cur.rest c.in_err-plain.field-0.0 (many_at member_at c.args.count c.args.cur.now.rest) c.loop-test.true c.in_err-plain.ensures c.loop.invariant)

pub loop-preserved : goal.loop-preserved
loop-preserved c =
    rw c.in_ok-push.ensures.ok
    (goes_on member_at c.loop.list c.args.count c.loop.counter c.loop.cur.rest c.member.new.cur.rest c.in_ok-plain.plain (many_at member_at c.args.count c.args.cur.now.rest) c.loop-test.true c.in_ok-plain.ensures c.loop.invariant)

pub returns : goal.returns
returns c = is_done member_at c.loop.list c.args.count c.loop.counter c.loop.cur.rest (many_at member_at c.args.count c.args.cur.now.rest) c.loop-test.false c.loop.invariant
