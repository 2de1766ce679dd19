use Rattle.std.proofs.Common.{◌≡◌, drop}
use Rattle.iff_form.specs.Chunk.{plains}
use Rattle.iff_form.specs.Form.{payload_of}
use Rattle.iff_form.proofs.form.Form.find.Given as goal

abbrev pub invariant-loop-chunk : goal.invariant-loop-chunk
invariant-loop-chunk l = payload_of l.id (plains (drop l.chunk-index l.chunk-items)) ≡ payload_of l.id (plains l.chunk-items)
