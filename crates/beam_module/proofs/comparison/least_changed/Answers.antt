use Rattle.std.proofs.Common.{[]}
use Rattle.std.specs.Prelude.{None}
use Rattle.iff_form.specs.declared.chunk.Chunk.{Chunk}
use Rattle.iff_form.specs.Chunk.{plains}
use Rattle.beam_module.specs.Comparison.{ids_changed, is_changed, least_from}
use Rattle.beam_module.proofs.Least.{next_left, next_taken}
use Rattle.beam_module.proofs.comparison.least_changed.Goals as goal
use Rattle.beam_module.proofs.comparison.least_changed.Goals.{then-is_changed, else-is_changed}

abbrev no_chunk : Chunk
no_chunk = record { id = record { 0 = [] }; payload = record { ref_ptr = (0, 0); now = [] }; at = 0 }

pub loop-chunk-preserved : goal.loop-chunk-preserved
loop-chunk-preserved c = λ b has.
    let whole = least_from None (ids_changed (plains c.chunks-chunk-items.result.now) b) in
    elim c.if-is_changed.branch [
      | then-is_changed w ↦ next_taken (is_changed b) c.chunks-chunk-items.result.now c.loop-chunk.chunk-index no_chunk c.loop-chunk.least c.if-is_changed.least whole c.is_changed.result w.lesser.result c.loop-chunk-test.true
          (c.is_changed.ensures b has) w.if-is_changed.true w.least-is w.lesser.ensures (c.loop-chunk.invariant b has)
      | else-is_changed w ↦ next_left (is_changed b) c.chunks-chunk-items.result.now c.loop-chunk.chunk-index no_chunk c.loop-chunk.least c.if-is_changed.least whole c.is_changed.result c.loop-chunk-test.true
          (c.is_changed.ensures b has) w.if-is_changed.false w.least-is (c.loop-chunk.invariant b has)
    ]
