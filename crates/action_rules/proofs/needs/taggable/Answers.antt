use Rattle.std.proofs.Common.{◌∙◌}
use Rattle.action_rules.proofs.Passing.{taggable_slots}
use Rattle.action_rules.proofs.needs.taggable.Goals as goal

pub returns : goal.returns
returns c =
    rw c.in_ok-slots.ensures
    ((rw c.none_tagged.ensures at c.check.ensures) ∙ taggable_slots c.in_ok-slots.slots.now c.args.y c.in_ok-slot_in.field-0 c.in_ok-slot_in.ensures)
