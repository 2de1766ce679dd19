-- What states stand for, and their order.
use Rattle.std.specs.Prelude.{ℕ, List, map, slice_index_or}
use Rattle.reg_state.specs.declared.kind.Kind.{Kind}
use Rattle.reg_state.specs.declared.kind.Kind.TheVariants.{Unset}
use Rattle.reg_state.specs.declared.state.Slot.{Slot}
use Rattle.reg_state.specs.declared.state.Slot.TheVariants as slot
use Rattle.reg_state.specs.declared.state.FrameState.{FrameState}
use Rattle.reg_state.specs.declared.state.FrameState.TheVariants as frame
use Rattle.reg_state.specs.declared.state.State.{State}
use Rattle.reg_state.specs.Store.{SlotOf, FrameOf, Store}
use Rattle.reg_state.specs.Store.SlotOf.{Holds, Tagged}
use Rattle.reg_state.specs.Store.FrameOf.{Absent, Slots, Unknown}
use Rattle.reg_state.specs.Related.{StoreRel}
use Rattle.reg_state.specs.Kinds.{KindBelow}

-- there is one way of a frame not to be known
abbrev pub Known : Type 0
Known = Store Kind (Unit {0})

-- a register past the end is unset
abbrev pub x_of : List Kind → ℕ → Kind
x_of kinds i = slice_index_or kinds i Unset

abbrev pub slot_of : Slot → SlotOf Kind
slot_of (slot.Is kind) = Holds kind
slot_of (slot.Tag label kind) = Tagged label kind

abbrev pub slots_of : List Slot → List (SlotOf Kind)
slots_of slots = map slot_of slots

abbrev pub frame_of : FrameState → FrameOf Kind (Unit {0})
frame_of frame.Absent = Absent
frame_of (frame.Slots slots) = Slots (slots_of slots)
frame_of frame.Clash = Unknown tt

abbrev pub store_of : State → Known
store_of s = record { x = x_of s.x; frame = frame_of s.frame; words = s.words; funs = s.funs }

abbrev pub IsBelow : Known → Known → Type 0
IsBelow s t = StoreRel KindBelow s t
