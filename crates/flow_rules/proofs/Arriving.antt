-- The registers of arguments.
use Rattle.std.proofs.Common.{◌≡◌, ℕ, zero, suc, replicate, arith}
use Rattle.std.proofs.lemmas.Bool.Decides.{nat_tests}
use Rattle.reg_state.specs.declared.kind.Kind.TheVariants.{Term}
use Rattle.reg_state.specs.States.{x_of}
use Rattle.flow_rules.specs.KnownEdges.{arguments}

terms_at : (n i : ℕ) → x_of (replicate n Term) i ≡ arguments n i
terms_at zero i = grind (arith, nat_tests)
terms_at (suc n) zero = grind (arith, nat_tests)
terms_at (suc n) (suc i) = let rest = terms_at n i in grind (arith, nat_tests, rest)

pub terms : (n : ℕ) → x_of (replicate n Term) ≡ arguments n
terms n = λ j i. terms_at n i j
