use Rattle.std.proofs.Common.{[]}
use Rattle.iff_form.specs.declared.chunk.Chunk.{Chunk}
use Rattle.iff_form.specs.Chunk.{plains}
use Rattle.beam_module.specs.Comparison.{ids_without, is_lacked, least_from}
use Rattle.beam_module.proofs.Least.{next_left, next_taken}
use Rattle.beam_module.proofs.comparison.least_lacked.Goals as goal
use Rattle.beam_module.proofs.comparison.least_lacked.Goals.{then-is_lacked, else-is_lacked}

abbrev no_chunk : Chunk
no_chunk = record { id = record { 0 = [] }; payload = record { ref_ptr = (0, 0); now = [] }; at = 0 }

pub loop-chunk-preserved : goal.loop-chunk-preserved
loop-chunk-preserved c = λ b has.
    let whole = least_from c.args.found (ids_without (plains c.chunks-chunk-items.result.now) b) in
    elim c.if-is_lacked.branch [
      | then-is_lacked w ↦ next_taken (is_lacked b) c.chunks-chunk-items.result.now c.loop-chunk.chunk-index no_chunk c.loop-chunk.least c.if-is_lacked.least whole c.is_lacked.result w.lesser.result c.loop-chunk-test.true
          (c.is_lacked.ensures b has) w.if-is_lacked.true w.least-is w.lesser.ensures (c.loop-chunk.invariant b has)
      | else-is_lacked w ↦ next_left (is_lacked b) c.chunks-chunk-items.result.now c.loop-chunk.chunk-index no_chunk c.loop-chunk.least c.if-is_lacked.least whole c.is_lacked.result c.loop-chunk-test.true
          (c.is_lacked.ensures b has) w.if-is_lacked.false w.least-is (c.loop-chunk.invariant b has)
    ]
