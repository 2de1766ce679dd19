use Rattle.iff_form.proofs.Payloads.{form_meets}
use Rattle.iff_form.proofs.laws.chunks_meet_their_type.Goals as goal

pub returns : goal.returns
returns c = form_meets
