use Rattle.std.proofs.Common.{◌≡◌, ◌∙◌, not, Some, sym, ap}
use Rattle.std.specs.Result.{result_err}
use Rattle.std.proofs.lemmas.Result.{err_from_is_err_and}
use Rattle.compact_term.specs.declared.operand.Reg.TheVariants.{Y}
use Rattle.reg_state.specs.declared.kind.Kind.{Kind}
use Rattle.reg_state.specs.Store.{SlotOf}
use Rattle.action_rules.specs.declared.reason.Reason.TheVariants.{OpenTag}
use Rattle.action_rules.specs.Needs.{check, is_tagged}
use Rattle.action_rules.proofs.needs.writable.Goals as goal

pub returns-in_err-slot-in-Y : goal.returns-in_err-slot-in-Y
returns-in_err-slot-in-Y c =
    let p = err_from_is_err_and c.from_residual.result c.from_residual.ensures.1 in
    let told : result_err c.from_residual.result ≡ Some c.in_err-slot-in-Y.field-0.0 = ap result_err p.1 ∙ ap Some p.2 in
    rw c.in-Y.is (told ∙ sym (c.in_err-slot-in-Y.ensures (λ (slot : SlotOf Kind). check (not (is_tagged slot)) (OpenTag (Y c.in-Y.y)))))

pub returns-in_ok-slot-in-Y : goal.returns-in_ok-slot-in-Y
returns-in_ok-slot-in-Y c =
    rw c.in-Y.is ((rw c.is_tagged.ensures at c.check.ensures) ∙ sym (c.in_ok-slot-in-Y.ensures (λ (slot : SlotOf Kind). check (not (is_tagged slot)) (OpenTag (Y c.in-Y.y)))))
