use Rattle.std.proofs.Common.{◌≡◌, ℕ, ◌<◌, true, get_or}
use Rattle.reg_state.specs.declared.state.Slot.{Slot}
use Rattle.reg_state.specs.States.{slot_of}
use Rattle.reg_state.specs.Join.{tagged_alike}
use Rattle.reg_state.proofs.join.are_alike.Given as goal

abbrev pub invariant-loop-i : goal.invariant-loop-i
invariant-loop-i l = (k : ℕ) → k < l.i → (d : Slot) → tagged_alike (slot_of (get_or l.a k d)) (slot_of (get_or l.b k d)) ≡ true
