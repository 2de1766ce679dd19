use Rattle.std.proofs.Common.{arith}
use Rattle.iff_form.specs.Chunk.{plains}
use Rattle.iff_form.proofs.Payloads.{payloads_fit}
use Rattle.code_chunk.proofs.One.{code_is_exact}
use Rattle.beam_module.proofs.Values.{values_are, values_take}
use Rattle.beam_module.proofs.reading.whole_file.Goals as goal

pub invariant_of-result : goal.invariant_of-result
invariant_of-result c =
    let chunks = plains c.chunks.result.now in
    let fits = payloads_fit chunks c.args.bytes.now (rw c.chunks.ensures.same c.in_ok-form.ensures.found) (λ i. omega (arith, c.type_inv.bytes i)) in
    values_are c.in_ok-chunks.chunks.items chunks (values_take code_is_exact chunks c.in_ok-chunks.chunks.items fits c.in_ok-chunks.ensures) (rw c.chunks.ensures.same c.chunks.ensures.distinct)
