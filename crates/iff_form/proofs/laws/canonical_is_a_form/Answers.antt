use Rattle.iff_form.proofs.Canon.{canonical_spelled}
use Rattle.iff_form.proofs.laws.canonical_is_a_form.Goals as goal

pub returns : goal.returns
returns c = canonical_spelled
