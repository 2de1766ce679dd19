use Rattle.std.proofs.Common.{◌≡◌, Some, None}
use Rattle.std.specs.Prelude.{slice_get}
use Rattle.action_rules.proofs.Slotwise.{written, none_written}
use Rattle.action_rules.proofs.effects.write_slot.Goals as goal

pub returns-in-Some : goal.returns-in-Some
returns-in-Some c =
    let at : slice_get c.args.slots.now c.args.y ≡ Some c.in-Some.slot = cc in
    rw c.set.ensures (written c.args.slots.now c.args.y c.in-Some.slot c.overwritten.result c.args.kind at c.overwritten.ensures)

pub returns-in_default : goal.returns-in_default
returns-in_default c =
    let at : slice_get c.args.slots.now c.args.y ≡ None = cc in
    none_written c.args.slots.now c.args.y c.args.kind at
