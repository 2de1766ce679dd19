use Rattle.std.proofs.Common.{◌∙◌, ◌<◌, length, sym, below_more, arith}
use Rattle.std.proofs.lemmas.Bool.{false_from_ne_true}
use Rattle.std.proofs.lemmas.List.{get_or_default}
use Rattle.reg_state.specs.declared.state.Slot.{Slot}
use Rattle.reg_state.specs.declared.state.Slot.TheVariants.{Is}
use Rattle.reg_state.specs.declared.kind.Kind.TheVariants.{Context}
use Rattle.reg_state.proofs.Slotwise.{alike_size, alike_at, alike_from}
use Rattle.reg_state.proofs.join.are_alike.Goals as goal

pub returns-then-a-b : goal.returns-then-a-b
returns-then-a-b c = sym (false_from_ne_true _ (λ e. c.if-a-b.true (alike_size c.args.a.now c.args.b.now e)))

pub loop-i-preserved : goal.loop-i-preserved
loop-i-preserved c =
    let other : c.loop-i.i < length c.args.b.now = omega arith in
    below_more _ _ c.loop-i.invariant
    (λ (d : Slot).
    rw (get_or_default c.args.a.now c.loop-i.i d (Is Context) c.loop-i-test.true, get_or_default c.args.b.now c.loop-i.i d (Is Context) other)
    (sym c.tagged_alike.ensures ∙ c.if-not-tagged_alike.false))

pub returns-then-not-tagged_alike : goal.returns-then-not-tagged_alike
returns-then-not-tagged_alike c =
    sym (false_from_ne_true _ (λ e. let at = alike_at c.args.a.now c.args.b.now c.loop-i.i (Is Context) c.loop-i-test.true e in absurd (cc)))

pub returns : goal.returns
returns c = sym (alike_from c.args.a.now c.args.b.now c.if-a-b.false (λ k inside d. c.loop-i.invariant k (omega arith) d))
