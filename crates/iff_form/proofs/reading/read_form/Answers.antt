use Rattle.std.proofs.Common.{arith}
use Rattle.iff_form.proofs.Refusals.{refused_call}
use Rattle.iff_form.proofs.Whole.{only_form}
use Rattle.iff_form.proofs.reading.read_form.Goals as goal

pub returns-clause-only : goal.returns-clause-only
returns-clause-only c = only_form c.args.bytes.now c.whole_form.result c.whole_form.ensures.exact

pub returns-clause-refused : goal.returns-clause-refused
returns-clause-refused c = refused_call c.args.bytes.now c.whole_form.result (λ i. omega (arith, c.type_inv.bytes i)) c.whole_form.ensures.exact
