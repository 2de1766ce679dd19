use Rattle.std.proofs.Common.{◌≡◌, ◌+◌, length, arith}
use Rattle.action_rules.proofs.Slotwise.{fitting_trim}
use Rattle.action_rules.proofs.effects.trim.Goals as goal

pub returns-in-Slots : goal.returns-in-Slots
returns-in-Slots c =
    let size : length c.in-Slots.slots ≡ c.args.n + c.args.r = omega arith in
    rw (c.in-Slots.is, c.drop_front.ensures) (fitting_trim c.args.n c.args.r c.in-Slots.slots size)
