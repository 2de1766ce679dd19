use Rattle.std.proofs.Common.{[], arith}
use Rattle.iff_form.specs.declared.chunk.Chunk.{Chunk}
use Rattle.beam_module.proofs.Kept.{kept_within}
use Rattle.beam_module.proofs.stripping.strip.Goals as goal

abbrev no_chunk : Chunk
no_chunk = record { id = record { 0 = [] }; payload = record { ref_ptr = (0, 0); now = [] }; at = 0 }

pub put_chunk-requires : goal.put_chunk-requires
put_chunk-requires c =
    omega (
      arith,
      kept_within c.chunks-chunk-items.result.now c.loop-chunk.chunk-index no_chunk c.args.form.now c.loop-chunk-test.true c.chunks-chunk-items.ensures.same c.chunks-chunk-items.ensures.fits,
    )
