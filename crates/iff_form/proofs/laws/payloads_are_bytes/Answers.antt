use Rattle.iff_form.proofs.Payloads.{payloads_fit}
use Rattle.iff_form.proofs.laws.payloads_are_bytes.Goals as goal

pub returns : goal.returns
returns c = payloads_fit
