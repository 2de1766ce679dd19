use Rattle.beam_module.proofs.CanonicalFile.{canon_is_file}
use Rattle.beam_module.proofs.laws.canon_is_a_file.Goals as goal

pub returns : goal.returns
returns c = canon_is_file c.canonical_is_a_form.ensures c.canonical_code_is_spelled.ensures c.spelled_code_is_bytes.ensures
