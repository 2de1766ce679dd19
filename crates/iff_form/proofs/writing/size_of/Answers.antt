use Rattle.std.proofs.Common.{ℕ, List, length, ap, arith}
use Rattle.iff_form.specs.Chunk.{owned_plain}
use Rattle.iff_form.proofs.Owned.{next_within}
use Rattle.iff_form.proofs.writing.size_of.Goals as goal

pub overflow_cast-size : goal.overflow_cast-size
overflow_cast-size c =
    omega (
      arith,
      c.chunk_len.ensures,
      ap (λ (s : List ℕ). length s) c.as_slice.ensures,
      next_within owned_plain c.as_slice-chunk-items.result.now c.loop-chunk.chunk-index c.chunk-item.result c.chunk-item.result c.args.chunks.now c.loop-chunk-test.true c.chunk-item.is c.as_slice-chunk-items.ensures.same c.requires,
    )

pub overflow_add-size : goal.overflow_add-size
overflow_add-size c =
    omega (
      arith,
      c.loop-chunk.invariant,
      c.chunk_len.ensures,
      ap (λ (s : List ℕ). length s) c.as_slice.ensures,
      next_within owned_plain c.as_slice-chunk-items.result.now c.loop-chunk.chunk-index c.chunk-item.result c.chunk-item.result c.args.chunks.now c.loop-chunk-test.true c.chunk-item.is c.as_slice-chunk-items.ensures.same c.requires,
    )
