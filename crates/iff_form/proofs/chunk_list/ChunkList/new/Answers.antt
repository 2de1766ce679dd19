use Rattle.iff_form.proofs.Whole.{IsDistinct-none}
use Rattle.iff_form.proofs.chunk_list.ChunkList.new.Goals as goal

pub invariant_of-result : goal.invariant_of-result
invariant_of-result c = rw c.new.ensures.items IsDistinct-none
