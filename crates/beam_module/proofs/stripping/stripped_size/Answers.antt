use Rattle.std.proofs.Common.{[], arith}
use Rattle.iff_form.specs.declared.chunk.Chunk.{Chunk}
use Rattle.beam_module.proofs.Kept.{kept_within}
use Rattle.beam_module.proofs.stripping.stripped_size.Goals as goal

abbrev no_chunk : Chunk
no_chunk = record { id = record { 0 = [] }; payload = record { ref_ptr = (0, 0); now = [] }; at = 0 }

pub overflow_cast-size : goal.overflow_cast-size
overflow_cast-size c =
    omega (
      arith,
      c.chunk_len.ensures,
      kept_within c.chunks-chunk-items.result.now c.loop-chunk.chunk-index no_chunk c.args.form.now c.loop-chunk-test.true c.chunks-chunk-items.ensures.same c.chunks-chunk-items.ensures.fits,
    )

pub overflow_add-size : goal.overflow_add-size
overflow_add-size c =
    omega (
      arith,
      c.loop-chunk.invariant,
      c.chunk_len.ensures,
      kept_within c.chunks-chunk-items.result.now c.loop-chunk.chunk-index no_chunk c.args.form.now c.loop-chunk-test.true c.chunks-chunk-items.ensures.same c.chunks-chunk-items.ensures.fits,
    )
