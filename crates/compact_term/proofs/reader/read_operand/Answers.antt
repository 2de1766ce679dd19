use Rattle.std.proofs.Common.{ap, ◌∙◌, inl, inr, drop, Ok, Err}
use Rattle.std.proofs.lemmas.Result.{err_from_is_err_and}
use Rattle.compact_term.proofs.Fronts.{same_operand, only_memory}
use Rattle.compact_term.proofs.reader.read_operand.Goals as goal

pub returns-in_err-operand-clause-only : goal.returns-in_err-operand-clause-only
returns-in_err-operand-clause-only c o text more spelt is =
    let p = err_from_is_err_and c.from_residual.result c.from_residual.ensures.1 in
    let memory = only_memory o text more c.args.cur.now.rest c.in_err-operand.field-0.0 (rw c.rest-bytes.ensures at c.in_err-operand.ensures.refused) spelt is in
    inr (p.1 ∙ ap (λ (e : _). Err e) (p.2 ∙ memory))

pub returns-clause-only : goal.returns-clause-only
returns-clause-only c o text more spelt is =
    inl (ap (λ (x : _). Ok x) (same_operand o c.in_ok-operand.operand text more c.args.cur.now.rest (drop c.in_ok-operand.len c.args.cur.now.rest) (rw c.rest-bytes.ensures at c.in_ok-operand.ensures.found) spelt is))

pub returns-in-Some-clause-only : goal.returns-in-Some-clause-only
returns-in-Some-clause-only c o text more spelt is =
    inl (ap (λ (x : _). Ok x) (same_operand o c.in-Some.operand text more c.args.cur.now.rest (drop c.in-Some.len c.args.cur.now.rest) (rw c.rest-bytes.ensures at c.in-Some.ensures.found) spelt is))
