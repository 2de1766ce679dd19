use Rattle.std.proofs.Common.{◌∙◌, ◌+◌, ◌-◌, Some, refl, sym, ap}
use Rattle.std.specs.Result.{result_err}
use Rattle.std.proofs.lemmas.Result.{err_from_is_err_and}
use Rattle.compact_term.specs.declared.operand.Reg.TheVariants.{X}
use Rattle.reg_state.specs.States.{x_of}
use Rattle.action_rules.specs.declared.reason.Reason.TheVariants.{Unset}
use Rattle.action_rules.specs.KindDomain.{kinds, is_term}
use Rattle.action_rules.specs.Needs.{live_from}
use Rattle.action_rules.proofs.Passing.{passes, fails, live_at}
use Rattle.action_rules.proofs.needs.live.Goals as goal

pub loop-i-preserved : goal.loop-i-preserved
loop-i-preserved c =
    let rest = live_from kinds (x_of c.args.x.now) (c.loop-i.i + 1) (c.args.n - (c.loop-i.i + 1)) in
    let is = c.is_term.ensures ∙ ap is_term c.kind_at.ensures in
    c.loop-i.invariant ∙ live_at (x_of c.args.x.now) c.loop-i.i c.args.n c.loop-i-test.true ∙ passes c.is_term.result _ (Unset (X c.loop-i.i)) _ rest is c.in_ok-check.ensures

pub returns-in_err-check : goal.returns-in_err-check
returns-in_err-check c =
    let p = err_from_is_err_and c.from_residual.result c.from_residual.ensures.1 in
    let rest = live_from kinds (x_of c.args.x.now) (c.loop-i.i + 1) (c.args.n - (c.loop-i.i + 1)) in
    let is = c.is_term.ensures ∙ ap is_term c.kind_at.ensures in
    ap result_err p.1
    ∙ ap Some p.2
    ∙ fails c.is_term.result _ (Unset (X c.loop-i.i)) _ c.in_err-check.field-0.0 rest is refl c.in_err-check.ensures
    ∙ sym (c.loop-i.invariant ∙ live_at (x_of c.args.x.now) c.loop-i.i c.args.n c.loop-i-test.true)
