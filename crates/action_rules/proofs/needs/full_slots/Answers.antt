use Rattle.std.proofs.Common.{◌≡◌, ◌∙◌, ◌+◌, drop, Some, sym, ap, arith}
use Rattle.std.specs.Result.{result_err}
use Rattle.std.proofs.lemmas.Result.{err_from_is_err_and}
use Rattle.compact_term.specs.declared.operand.Reg.TheVariants.{Y}
use Rattle.reg_state.specs.declared.kind.Kind.TheVariants.{Context}
use Rattle.reg_state.specs.declared.state.Slot.TheVariants.{Is}
use Rattle.reg_state.specs.States.{slots_of}
use Rattle.action_rules.specs.declared.reason.Reason.TheVariants.{Unset}
use Rattle.action_rules.specs.KindDomain.{kinds}
use Rattle.action_rules.specs.Needs.{full_from}
use Rattle.action_rules.proofs.Passing.{passes, fails, full_at}
use Rattle.action_rules.proofs.needs.full_slots.Goals as goal

pub loop-i-preserved : goal.loop-i-preserved
loop-i-preserved c =
    let rest = full_from kinds (c.loop-i.i + 1) (slots_of (drop (c.loop-i.i + 1) c.args.slots.now)) in
    c.loop-i.invariant ∙ full_at c.args.slots.now c.loop-i.i (Is Context) c.loop-i-test.true ∙ passes c.is_full.result _ (Unset c.slot_register.result) _ rest c.is_full.ensures c.in_ok-check.ensures

pub returns-in_err-check : goal.returns-in_err-check
returns-in_err-check c = λ few.
    let p = err_from_is_err_and c.from_residual.result c.from_residual.ensures.1 in
    let rest = full_from kinds (c.loop-i.i + 1) (slots_of (drop (c.loop-i.i + 1) c.args.slots.now)) in
    let numbered : c.slot_register.result ≡ Y c.loop-i.i = c.slot_register.ensures (omega arith) in
    ap result_err p.1
    ∙ ap Some p.2
    ∙ fails c.is_full.result _ (Unset c.slot_register.result) _ c.in_err-check.field-0.0 rest c.is_full.ensures (ap Unset numbered) c.in_err-check.ensures
    ∙ sym (c.loop-i.invariant ∙ full_at c.args.slots.now c.loop-i.i (Is Context) c.loop-i-test.true)
