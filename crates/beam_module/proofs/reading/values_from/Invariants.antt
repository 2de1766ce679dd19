use Rattle.std.proofs.Common.{◌≡◌, drop}
use Rattle.bk_codec.proofs.ToTheEnd.{with_items}
use Rattle.iff_form.specs.Chunk.{plains}
use Rattle.beam_module.specs.Reading.{values_of}
use Rattle.beam_module.proofs.reading.values_from.Given as goal

abbrev pub invariant-loop-chunk : goal.invariant-loop-chunk
invariant-loop-chunk l = with_items l.values.items (values_of (plains (drop l.chunk-index l.chunks))) ≡ values_of (plains l.chunks)
