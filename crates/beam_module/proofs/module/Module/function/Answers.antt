use Rattle.std.proofs.Common.{arith}
use Rattle.std.proofs.lemmas.Option.{IfSome_then}
use Rattle.beam_module.proofs.module.Module.function.Goals as goal

pub returns-clause-places : goal.returns-clause-places
returns-clause-places c =
    IfSome_then c.function.result c.function.ensures.stands (λ f is. (omega (arith, c.self.invariant, is.before, is.within), omega (arith, c.self.invariant, is.within)))
