use Rattle.std.proofs.Common.{arith}
use Rattle.iff_form.proofs.Canon.{payload_short}
use Rattle.iff_form.proofs.form.Form.find.Goals as goal

pub returns-then-eq-clause-short : goal.returns-then-eq-clause-short
returns-then-eq-clause-short c =
    rw c.deref-chunk-items.ensures.value (payload_short c.self.inside.chunks.items c.loop-chunk.chunk-index _ c.self.invariant.fits (omega (arith, c.loop-chunk-test.true)))
