use Rattle.std.proofs.Common.{arith, suc, [], ◌∷◌, length-append}
use Rattle.std.proofs.lemmas.List.Elements.{All-push}
use Rattle.ext_term.specs.declared.term.Term.TheVariants as terms
use Rattle.ext_term.specs.Writing.{IsWritable}
use Rattle.ext_term.proofs.Writable.{writable_nil}
use Rattle.ext_term.proofs.tests.nils.Goals as goal

pub loop-preserved : goal.loop-preserved
loop-preserved c =
    rw c.in_ok-push.ensures.ok (
      omega (arith, c.loop.invariant.0, length-append c.loop.items (terms.Nil ∷ [])),
      λ levels. All-push (IsWritable (suc levels)) c.loop.items terms.Nil (c.loop.invariant.1 levels) (writable_nil levels),
    )
