use Rattle.std.proofs.Common.{ℕ, List, length, ap, arith}
use Rattle.beam_module.proofs.CanonicalFile.{next_within}
use Rattle.beam_module.proofs.writing.canon.Goals as goal

pub put_chunk-requires : goal.put_chunk-requires
put_chunk-requires c =
    omega (
      arith,
      ap (λ (s : List ℕ). length s) c.payload.ensures,
      next_within c.as_slice-id-items.result.now c.loop-id.id-index c.loop-id-item.result c.args.v.now c.loop-id-test.true c.loop-id-item.is c.as_slice-id-items.ensures.same c.requires.size,
    )
