-- The state that stands for what is known of so many registers.
use Rattle.std.specs.Prelude.{ℕ, zero, suc, List, [], ◌∷◌, map}
use Rattle.reg_state.specs.declared.kind.Kind.{Kind}
use Rattle.reg_state.specs.declared.state.Slot.{Slot}
use Rattle.reg_state.specs.declared.state.Slot.TheVariants as slot
use Rattle.reg_state.specs.declared.state.FrameState.{FrameState}
use Rattle.reg_state.specs.declared.state.FrameState.TheVariants as frame
use Rattle.reg_state.specs.declared.state.State.{State}
use Rattle.reg_state.specs.Store.{SlotOf, FrameOf}
use Rattle.reg_state.specs.Store.SlotOf.{Holds, Tagged}
use Rattle.reg_state.specs.Store.FrameOf.{Absent, Slots, Unknown}
use Rattle.reg_state.specs.States.{Known}

-- register i and so many more
abbrev pub kinds_from : (ℕ → Kind) → ℕ → ℕ → List Kind
kinds_from x i zero = []
kinds_from x i (suc more) = x i ∷ kinds_from x (suc i) more

abbrev pub slot_from : SlotOf Kind → Slot
slot_from (Holds kind) = slot.Is kind
slot_from (Tagged label kind) = slot.Tag label kind

abbrev pub frame_from : FrameOf Kind (Unit {0}) → FrameState
frame_from Absent = frame.Absent
frame_from (Slots ss) = frame.Slots (map slot_from ss)
frame_from (Unknown why) = frame.Clash

abbrev pub state_from : ℕ → Known → State
state_from count s = record { x = kinds_from s.x 0 count; frame = frame_from s.frame; words = s.words; funs = s.funs }
