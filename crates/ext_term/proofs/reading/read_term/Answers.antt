use Rattle.std.proofs.Common.{arith}
use Rattle.ext_term.proofs.Terms.{found, only}
use Rattle.ext_term.proofs.reading.read_term.Goals as goal

pub returns-clause-found : goal.returns-clause-found
returns-clause-found c = found c.args.s.now c.whole_term.result (λ i. omega (arith, c.type_inv.s i)) c.whole_term.ensures

pub returns-clause-only : goal.returns-clause-only
returns-clause-only c = λ t is. only c.args.s.now c.whole_term.result c.whole_term.ensures t is
