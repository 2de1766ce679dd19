use Rattle.std.proofs.Common.{◌∙◌, sym}
use Rattle.std.proofs.lemmas.Result.{err_from_is_err_and, on_err_weaker}
use Rattle.ext_term.proofs.Quoted.{part_added}
use Rattle.ext_term.proofs.name.name_text.Goals as goal

pub returns-in_err-push_escaped-clause-err : goal.returns-in_err-push_escaped-clause-err
returns-in_err-push_escaped-clause-err c =
    let p = err_from_is_err_and c.from_residual-in_err-push_escaped.result c.from_residual-in_err-push_escaped.ensures.1 in
    rw p.1 (part_added c.args.name.now c.args.out.now.items c.push_escaped.new.out.items c.loop-b.b-index (sym c.is_bare.ensures ∙ c.if-is_bare.false) (c.in_err-push_escaped.ensures.err ∙ c.loop-b.invariant))

pub returns-clause-err : goal.returns-clause-err
returns-clause-err c =
    on_err_weaker c.push-2.result (λ e. part_added c.args.name.now c.args.out.now.items c.push-2.new.self.items c.loop-b.b-index (sym c.is_bare.ensures ∙ c.if-is_bare.false) (e ∙ c.loop-b.invariant)) c.push-2.ensures.err
