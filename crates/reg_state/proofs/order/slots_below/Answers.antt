use Rattle.std.proofs.Common.{◌<◌, length, refl, below_more, arith}
use Rattle.std.proofs.lemmas.Bool.{false≢true}
use Rattle.std.proofs.lemmas.List.{get_or_default}
use Rattle.reg_state.specs.declared.state.Slot.{Slot}
use Rattle.reg_state.specs.declared.state.Slot.TheVariants.{Is}
use Rattle.reg_state.specs.declared.kind.Kind.TheVariants.{Context}
use Rattle.reg_state.proofs.Slotwise.{related_size, related_at, related_from}
use Rattle.reg_state.proofs.order.slots_below.Goals as goal

pub returns-then-a-b : goal.returns-then-a-b
returns-then-a-b c = (λ e. absurd (false≢true e), λ related. absurd (c.if-a-b.true (related_size c.args.a.now c.args.b.now related)))

pub loop-i-preserved : goal.loop-i-preserved
loop-i-preserved c =
    let other : c.loop-i.i < length c.args.b.now = omega arith in
    below_more _ _ c.loop-i.invariant
    (λ (d : Slot).
    rw (get_or_default c.args.a.now c.loop-i.i d (Is Context) c.loop-i-test.true, get_or_default c.args.b.now c.loop-i.i d (Is Context) other)
    (c.if-not-slot_below.ensures.0 refl))

pub returns-then-not-slot_below : goal.returns-then-not-slot_below
returns-then-not-slot_below c = (
  λ e. absurd (false≢true e),
  λ related. c.if-not-slot_below.ensures.1 (related_at c.args.a.now c.args.b.now c.loop-i.i (Is Context) c.loop-i-test.true related),
)

pub returns : goal.returns
returns c =
    (λ _. related_from c.args.a.now c.args.b.now c.if-a-b.false (λ k inside d. c.loop-i.invariant k (omega arith) d), λ _. refl)
