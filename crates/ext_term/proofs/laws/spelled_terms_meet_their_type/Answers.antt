use Rattle.ext_term.proofs.Typed.{file_meets}
use Rattle.ext_term.proofs.laws.spelled_terms_meet_their_type.Goals as goal

pub returns : goal.returns
returns c = λ t bytes fits is. file_meets t bytes fits is
