use Rattle.compact_term.proofs.Chosen.{canonical_spelled}
use Rattle.compact_term.proofs.laws.canonical_is_spelled.Goals as goal

pub returns : goal.returns
returns c = canonical_spelled
