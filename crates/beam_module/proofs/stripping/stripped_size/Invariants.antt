use Rattle.std.proofs.Common.{◌≡◌, take}
use Rattle.iff_form.specs.Chunk.{plains}
use Rattle.iff_form.specs.Form.{form_size}
use Rattle.beam_module.specs.Strip.{stripped}
use Rattle.beam_module.proofs.stripping.stripped_size.Given as goal

abbrev pub invariant-loop-chunk : goal.invariant-loop-chunk
invariant-loop-chunk l = l.size ≡ form_size (stripped (plains (take l.chunk-index l.chunk-items)))
