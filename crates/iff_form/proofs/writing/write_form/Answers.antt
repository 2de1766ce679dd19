use Rattle.std.proofs.Common.{ℕ, List, length, ap, arith}
use Rattle.iff_form.specs.Chunk.{owned_plain}
use Rattle.iff_form.proofs.Owned.{next_within}
use Rattle.iff_form.proofs.writing.write_form.Goals as goal

pub put_chunk-requires : goal.put_chunk-requires
put_chunk-requires c =
    omega (
      arith,
      ap (λ (s : List ℕ). length s) c.as_slice.ensures,
      next_within owned_plain c.as_slice-chunk-items.result.now c.loop-chunk.chunk-index c.chunk-item.result c.chunk-item.result c.args.chunks.now c.loop-chunk-test.true c.chunk-item.is c.as_slice-chunk-items.ensures.same c.requires,
    )
