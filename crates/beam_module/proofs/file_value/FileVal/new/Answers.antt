use Rattle.beam_module.proofs.ChunkLemmas.{chunks_none}
use Rattle.beam_module.proofs.file_value.FileVal.new.Goals as goal

pub invariant_of-result : goal.invariant_of-result
invariant_of-result c = rw c.new.ensures.items chunks_none
