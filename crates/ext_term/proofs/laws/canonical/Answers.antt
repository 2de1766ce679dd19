use Rattle.ext_term.proofs.Respelled.{writable_spelled}
use Rattle.ext_term.proofs.laws.canonical.Goals as goal

pub returns : goal.returns
returns c = λ t meets. writable_spelled t meets
