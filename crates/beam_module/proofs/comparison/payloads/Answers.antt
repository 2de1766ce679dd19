use Rattle.std.proofs.Common.{[]}
use Rattle.iff_form.specs.declared.chunk.Chunk.{Chunk}
use Rattle.beam_module.proofs.ByIds.{next_has}
use Rattle.beam_module.proofs.comparison.payloads.Goals as goal

abbrev no_chunk : Chunk
no_chunk = record { id = record { 0 = [] }; payload = record { ref_ptr = (0, 0); now = [] }; at = 0 }

pub loop-chunk-preserved : goal.loop-chunk-preserved
loop-chunk-preserved c =
    next_has c.loop-chunk.payloads c.insert.new.self c.chunks-chunk-items.result.now c.loop-chunk.chunk-index no_chunk c.loop-chunk-test.true
    (rw c.chunks-chunk-items.ensures.same c.chunks-chunk-items.ensures.distinct) c.loop-chunk.invariant c.in_ok-insert.ensures.updates.0
