use Rattle.std.proofs.Common.{◌≡◌, take}
use Rattle.iff_form.specs.Chunk.{owned_plains}
use Rattle.iff_form.specs.Form.{form_size}
use Rattle.iff_form.proofs.writing.size_of.Given as goal

abbrev pub invariant-loop-chunk : goal.invariant-loop-chunk
invariant-loop-chunk l = l.size ≡ form_size (owned_plains (take l.chunk-index l.chunk-items))
