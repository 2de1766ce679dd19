use Rattle.std.proofs.Common.{take}
use Rattle.iff_form.specs.Chunk.{plains}
use Rattle.beam_module.specs.Comparison.{HasPayloads}
use Rattle.beam_module.proofs.comparison.payloads.Given as goal

abbrev pub invariant-loop-chunk : goal.invariant-loop-chunk
invariant-loop-chunk l = HasPayloads l.payloads (plains (take l.chunk-index l.chunk-items))
