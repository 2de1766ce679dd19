use Rattle.reg_state.proofs.Slotwise.{held, before_tag, beside_tag}
use Rattle.reg_state.specs.States.{slot_of}
use Rattle.reg_state.proofs.order.slot_below.Goals as goal
use Rattle.reg_state.proofs.order.slot_below.Goals.{in_default-via-in-Is+in_default, in_default-via-in_default}

pub returns-in-Is-Is : goal.returns-in-Is-Is
returns-in-Is-Is c = rw (c.in-Is-Is.is-0, c.in-Is-Is.is-1) (held c.in-Is-Is.a c.in-Is-Is.b c.kind_below.result c.kind_below.ensures)

pub returns-in_default : goal.returns-in_default
returns-in_default c =
    elim c.in_default.branch [
      | in_default-via-in-Is+in_default w ↦
          rw (w.in_default.is-0, w.in_default.is-1)
          (before_tag w.in_default.field-0-0 w.in_default.field-0-1 w.in_default.field-1-1 c.tagged_alike.result
          (rw (w.in_default.is-0, w.in_default.is-1) at c.tagged_alike.ensures))
      | in_default-via-in_default w ↦
          rw w.in_default.is-0
          (beside_tag w.in_default.field-0-0 w.in_default.field-1-0 (slot_of c.args.b) c.tagged_alike.result
          (rw w.in_default.is-0 at c.tagged_alike.ensures))
    ]
