use Rattle.ext_term.proofs.Terms.{one_file}
use Rattle.ext_term.proofs.laws.one_term.Goals as goal

pub returns : goal.returns
returns c = λ a b x y t u is_t is_u same. one_file t u a b x y is_t is_u same
