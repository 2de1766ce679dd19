use Rattle.ext_term.proofs.Steadiness.{rest_behind}
use Rattle.ext_term.proofs.laws.bytes_behind_are_refused.Goals as goal

pub returns : goal.returns
returns c = λ t bytes more is some. rest_behind t bytes more is some
