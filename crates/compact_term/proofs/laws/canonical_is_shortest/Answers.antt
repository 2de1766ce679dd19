use Rattle.compact_term.proofs.Shortest.{canonical_shortest}
use Rattle.compact_term.proofs.laws.canonical_is_shortest.Goals as goal

pub returns : goal.returns
returns c = canonical_shortest
