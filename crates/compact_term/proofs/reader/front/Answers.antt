use Rattle.std.proofs.Common.{arith}
use Rattle.compact_term.proofs.Fronts.{WasRead, was_read}
use Rattle.compact_term.proofs.reader.front.Goals as goal

read : (c : goal.After-rest) → WasRead c.in_ok-operand.operand c.args.bytes.now c.whole_operand.new.cur.rest
read c = was_read c.args.bytes.now c.in_ok-operand.operand c.whole_operand.new.cur.rest (λ i. omega (arith, c.type_inv.bytes i)) (rw c.new-cur.ensures.rest at c.in_ok-operand.ensures)

pub overflow_sub-len : goal.overflow_sub-len
overflow_sub-len c = rw c.rest.ensures (read c).shorter

pub returns-clause-found : goal.returns-clause-found
returns-clause-found c = rw (c.rest.ensures, ← (read c).left) (read c).begins

pub returns-clause-proper : goal.returns-clause-proper
returns-clause-proper c = (read c).proper

pub returns-clause-meets_type : goal.returns-clause-meets_type
returns-clause-meets_type c = (read c).meets_type

pub returns-clause-read : goal.returns-clause-read
returns-clause-read c =
    rw (c.rest.ensures, ← (read c).left) (rw c.new-cur.ensures.rest at c.in_ok-operand.ensures)
