use Rattle.operand_text.proofs.Lists.{closed_at, not_closed}
use Rattle.operand_text.proofs.reading.closed.Goals as goal

pub returns-then-b-last : goal.returns-then-b-last
returns-then-b-last c = not_closed c.args.last c.args.text.now c.in-Some.inner.now c.in-Some.b.now c.in-Some.ensures.cases.0 c.if-b-last.true

pub returns : goal.returns
returns c = closed_at c.args.last c.args.text.now c.in-Some.inner.now c.in-Some.b.now c.in-Some.ensures.cases.0 c.if-b-last.false
