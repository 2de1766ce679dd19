use Rattle.beam_module.proofs.CanonicalFile.{canon_shortest}
use Rattle.beam_module.proofs.laws.canon_is_shortest.Goals as goal

pub returns : goal.returns
returns c = canon_shortest c.canonical_code_is_shortest.ensures
