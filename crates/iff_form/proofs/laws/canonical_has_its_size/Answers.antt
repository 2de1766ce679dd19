use Rattle.iff_form.proofs.Canon.{length-canonical}
use Rattle.iff_form.proofs.laws.canonical_has_its_size.Goals as goal

pub returns : goal.returns
returns c = length-canonical
