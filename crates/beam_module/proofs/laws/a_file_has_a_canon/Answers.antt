use Rattle.beam_module.proofs.CanonicalFile.{file_has_canon}
use Rattle.beam_module.proofs.laws.a_file_has_a_canon.Goals as goal

pub returns : goal.returns
returns c = file_has_canon c.a_file_meets_its_type.ensures c.canon_is_a_file.ensures
