use Rattle.std.proofs.Common.{◌≡◌, ◌∙◌, ◌&&◌}
use Rattle.reg_state.specs.States.{slot_of}
use Rattle.action_rules.specs.Needs.{is_tagged_as}
use Rattle.action_rules.proofs.Passing.{untaggable_slots}
use Rattle.action_rules.proofs.needs.untaggable.Goals as goal
use Rattle.action_rules.proofs.needs.untaggable.Goals.{then-is_lowest, else-is_lowest}

pub returns : goal.returns
returns c =
    let checked : c.if-is_lowest.check ≡ (c.none_tagged-is_lowest.result && is_tagged_as c.args.kind (slot_of c.in_ok-slot.slot)) =
    elim c.if-is_lowest.branch [
      | then-is_lowest w ↦ rw w.if-is_lowest.true (w.check-is ∙ w.is_tagged_as.ensures)
      | else-is_lowest w ↦ rw w.if-is_lowest.false (w.check-is ∙ w.if-is_lowest.false)
    ]
    in
    rw c.in_ok-slots.ensures
    ((rw (checked, c.none_tagged-is_lowest.ensures) at c.check.ensures) ∙ untaggable_slots c.in_ok-slots.slots.now c.args.y c.args.kind c.in_ok-slot.slot c.in_ok-slot.ensures)
