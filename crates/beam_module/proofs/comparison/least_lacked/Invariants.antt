use Rattle.std.proofs.Common.{◌≡◌, List, drop}
use Rattle.iff_form.specs.Chunk.{PlainChunk, plains}
use Rattle.beam_module.specs.Comparison.{HasPayloads, ids_without, least_from}
use Rattle.beam_module.proofs.comparison.least_lacked.Given as goal

abbrev pub invariant-loop-chunk : goal.invariant-loop-chunk
invariant-loop-chunk l =
    (b : List PlainChunk) → HasPayloads l.others b → least_from l.least (ids_without (plains (drop l.chunk-index l.chunk-items)) b) ≡ least_from l.fn.found (ids_without (plains l.chunk-items) b)
