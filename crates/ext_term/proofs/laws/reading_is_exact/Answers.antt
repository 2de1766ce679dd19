use Rattle.bk_codec.proofs.Exact.{exact_from}
use Rattle.ext_term.proofs.Terms.{file_takes, file_again}
use Rattle.ext_term.proofs.laws.reading_is_exact.Goals as goal

pub returns : goal.returns
returns c = exact_from file_takes (λ bytes t is. file_again t bytes is)
