use Rattle.std.proofs.Common.{arith}
use Rattle.code_chunk.proofs.One.{answer_found, answer_proper, answer_meets_type, answer_only, answer_wrong}
use Rattle.code_chunk.proofs.code.read_code.Goals as goal

pub returns-clause-found : goal.returns-clause-found
returns-clause-found c = answer_found c.args.s.now c.whole_code.result (λ i. omega (arith, c.type_inv.s i)) c.whole_code.ensures

pub returns-clause-proper : goal.returns-clause-proper
returns-clause-proper c = answer_proper c.args.s.now c.whole_code.result (λ i. omega (arith, c.type_inv.s i)) c.whole_code.ensures

pub returns-clause-meets_type : goal.returns-clause-meets_type
returns-clause-meets_type c = answer_meets_type c.args.s.now c.whole_code.result (λ i. omega (arith, c.type_inv.s i)) c.whole_code.ensures

pub returns-clause-only : goal.returns-clause-only
returns-clause-only c = answer_only c.args.s.now c.whole_code.result c.whole_code.ensures

pub returns-clause-wrong : goal.returns-clause-wrong
returns-clause-wrong c = answer_wrong c.args.s.now c.whole_code.result (λ i. omega (arith, c.type_inv.s i)) c.whole_code.ensures
