use Rattle.std.proofs.Common.{refl}
use Rattle.reg_state.specs.Related.FrameRel.{both_absent, not_known}
use Rattle.reg_state.specs.States.{frame_of}
use Rattle.reg_state.proofs.Slotwise.{of_slots}
use Rattle.reg_state.proofs.order.frame_below.Goals as goal

pub returns-in_default-Clash : goal.returns-in_default-Clash
returns-in_default-Clash c = rw c.in_default-Clash.is-1 (λ _. not_known (frame_of c.args.a.now) tt, λ _. refl)

pub returns-in-Absent-Absent : goal.returns-in-Absent-Absent
returns-in-Absent-Absent c = rw (c.in-Absent-Absent.is-0, c.in-Absent-Absent.is-1) (λ _. both_absent, λ _. refl)

pub returns-in-Slots-Slots : goal.returns-in-Slots-Slots
returns-in-Slots-Slots c =
    rw (c.in-Slots-Slots.is-0, c.in-Slots-Slots.is-1)
    (of_slots c.in-Slots-Slots.a c.in-Slots-Slots.b c.as_slice.result.now c.as_slice-in-Slots-Slots.result.now c.slots_below.result c.as_slice.ensures c.as_slice-in-Slots-Slots.ensures c.slots_below.ensures)
