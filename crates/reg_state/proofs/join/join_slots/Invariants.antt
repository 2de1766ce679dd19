use Rattle.std.proofs.Common.{◌≡◌, ℕ, ◌<◌, ◌≤◌, length, get_or}
use Rattle.reg_state.specs.declared.state.Slot.{Slot}
use Rattle.reg_state.specs.States.{slot_of}
use Rattle.reg_state.specs.Join.{joined_slot}
use Rattle.reg_state.proofs.join.join_slots.Given as goal

abbrev pub invariant-loop-i : goal.invariant-loop-i
invariant-loop-i l = record {
  size : length l.a ≡ length l.fn.a;
  done : (k : ℕ) → k < l.i → (d : Slot) → slot_of (get_or l.a k d) ≡ joined_slot (slot_of (get_or l.fn.a k d)) (slot_of (get_or l.b k d));
  left : (k : ℕ) → l.i ≤ k → (d : Slot) → get_or l.a k d ≡ get_or l.fn.a k d;
}
