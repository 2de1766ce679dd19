use Rattle.std.proofs.Common.{arith}
use Rattle.iff_form.specs.Chunk.{plains}
use Rattle.iff_form.proofs.Canon.{form_fits}
use Rattle.iff_form.proofs.Whole.{form_takes}
use Rattle.iff_form.proofs.reading.whole_form.Goals as goal

pub invariant_of-result : goal.invariant_of-result
invariant_of-result c =
    let read = form_takes c.args.bytes.now c.in_ok-size.size (plains c.in_ok-chunks.chunks.items) (λ i. omega (arith, c.type_inv.bytes i)) c.in_ok-size.ensures.size c.in_ok-chunks.ensures.chunks in
    record { offsets = c.in_ok-chunks.ensures.offsets; distinct = read.form.distinct; size_is = read.size_is; fits = form_fits (plains c.in_ok-chunks.chunks.items) c.args.bytes.now read.form }

pub returns-clause-found : goal.returns-clause-found
returns-clause-found c =
    let read = form_takes c.args.bytes.now c.in_ok-size.size (plains c.in_ok-chunks.chunks.items) (λ i. omega (arith, c.type_inv.bytes i)) c.in_ok-size.ensures.size c.in_ok-chunks.ensures.chunks in
    read.form
