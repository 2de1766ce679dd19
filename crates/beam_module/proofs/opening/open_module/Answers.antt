use Rattle.std.proofs.Common.{arith}
use Rattle.beam_module.proofs.Files.{answer_found, answer_only}
use Rattle.beam_module.proofs.opening.open_module.Goals as goal

pub returns-clause-found : goal.returns-clause-found
returns-clause-found c = answer_found c.args.bytes.now c.whole_module.result c.opening_is_exact.ensures (λ i. omega (arith, c.type_inv.bytes i)) c.whole_module.ensures

pub returns-clause-only : goal.returns-clause-only
returns-clause-only c = answer_only c.args.bytes.now c.whole_module.result c.opening_is_exact.ensures (λ i. omega (arith, c.type_inv.bytes i)) c.whole_module.ensures
