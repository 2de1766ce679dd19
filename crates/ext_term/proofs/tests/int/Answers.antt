use Rattle.std.proofs.Common.{arith}
use Rattle.std.proofs.lemmas.Int.{ints}
use Rattle.std.proofs.lemmas.Bool.Decides.{nat_tests}
use Rattle.ext_term.proofs.Writable.{writable_int}
use Rattle.ext_term.proofs.tests.int.Goals as goal

pub returns : goal.returns
returns c = λ levels. writable_int levels _ _ (λ none. grind (arith, ints, nat_tests))
