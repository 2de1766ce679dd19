use Rattle.std.proofs.Common.{◌<◌, ◌≤◌, length, arith}
use Rattle.action_rules.proofs.Slotwise.{put, none_put}
use Rattle.action_rules.proofs.effects.put_slot.Goals as goal

pub returns-then-y-len : goal.returns-then-y-len
returns-then-y-len c =
    let inside : c.args.y < length c.args.slots.now = omega arith in
    rw c.set.ensures (put c.args.slots.now c.args.y c.args.slot inside)

pub returns-else-y-len : goal.returns-else-y-len
returns-else-y-len c =
    let outside : length c.args.slots.now ≤ c.args.y = omega arith in
    none_put c.args.slots.now c.args.y c.args.slot outside
