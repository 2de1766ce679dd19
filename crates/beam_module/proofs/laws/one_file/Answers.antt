use Rattle.beam_module.proofs.One.{one_file_lem}
use Rattle.beam_module.proofs.laws.one_file.Goals as goal

pub returns : goal.returns
returns c = one_file_lem c.one_form.ensures c.one_code.ensures
