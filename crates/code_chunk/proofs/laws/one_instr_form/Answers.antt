use Rattle.code_chunk.proofs.One.{one_instr}
use Rattle.code_chunk.proofs.laws.one_instr_form.Goals as goal

pub returns : goal.returns
returns c = one_instr
