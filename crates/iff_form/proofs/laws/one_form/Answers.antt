use Rattle.iff_form.proofs.Refusals.{same_form}
use Rattle.iff_form.proofs.laws.one_form.Goals as goal

pub returns : goal.returns
returns c = same_form
