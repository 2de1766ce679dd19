use Rattle.beam_module.proofs.CanonicalFile.{file_meets}
use Rattle.beam_module.proofs.laws.a_file_meets_its_type.Goals as goal

pub returns : goal.returns
returns c =
    file_meets
    c.canonical_code_is_shortest.ensures
    c.chunks_meet_their_type.ensures
    c.a_form_has_its_size.ensures.fits
    c.spelled_code_is_proper.ensures.proper
    c.spelled_code_is_proper.ensures.meets_type
