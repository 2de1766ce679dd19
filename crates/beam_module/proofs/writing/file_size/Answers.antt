use Rattle.std.proofs.Common.{ℕ, List, length, ap, arith}
use Rattle.beam_module.proofs.CanonicalFile.{next_within}
use Rattle.beam_module.proofs.writing.file_size.Goals as goal

pub overflow_cast-size : goal.overflow_cast-size
overflow_cast-size c =
    omega (
      arith,
      c.chunk_len.ensures,
      ap (λ (s : List ℕ). length s) c.payload.ensures,
      next_within c.as_slice-value-items.result.now c.loop-value.value-index c.loop-value-item.result c.args.v.now c.loop-value-test.true c.loop-value-item.is c.as_slice-value-items.ensures.same c.requires.writable.size,
    )

pub overflow_add-size : goal.overflow_add-size
overflow_add-size c =
    omega (
      arith,
      c.loop-value.invariant,
      c.chunk_len.ensures,
      ap (λ (s : List ℕ). length s) c.payload.ensures,
      next_within c.as_slice-value-items.result.now c.loop-value.value-index c.loop-value-item.result c.args.v.now c.loop-value-test.true c.loop-value-item.is c.as_slice-value-items.ensures.same c.requires.writable.size,
    )
