use Rattle.std.proofs.Common.{◌∙◌, length, sym, ap}
use Rattle.reg_state.proofs.Slotwise.{alike_size}
use Rattle.reg_state.proofs.join.join_frame.Goals as goal

pub join_slots-requires : goal.join_slots-requires
join_slots-requires c =
    ap length (sym c.as_slice.ensures) ∙ alike_size c.as_slice.result.now c.as_slice-others.result.now (sym c.if-are_alike.ensures)
