use Rattle.std.proofs.Common.{ℕ, ◌<◌, get_or}
use Rattle.reg_state.specs.declared.state.Slot.{Slot}
use Rattle.reg_state.specs.Related.{SlotRel}
use Rattle.reg_state.specs.Kinds.{KindBelow}
use Rattle.reg_state.specs.States.{slot_of}
use Rattle.reg_state.proofs.order.slots_below.Given as goal

abbrev pub invariant-loop-i : goal.invariant-loop-i
invariant-loop-i l = (k : ℕ) → k < l.i → (d : Slot) → SlotRel KindBelow (slot_of (get_or l.a k d)) (slot_of (get_or l.b k d))
