use Rattle.std.proofs.Common.{◌≡◌, arith}
use Rattle.action_rules.proofs.Slotwise.{unset_slots}
use Rattle.action_rules.proofs.effects.unset_slots.Goals as goal

pub returns : goal.returns
returns c =
    let all : c.loop.counter ≡ c.args.n = omega arith in
    rw (c.loop.invariant, all) (unset_slots c.args.n)
