use Rattle.std.proofs.Common.{◌≡◌, ◌∙◌, ◌+◌, ◌<◌, length, take, arith, length-take}
use Rattle.std.proofs.lemmas.List.{length-map}
use Rattle.reg_state.specs.States.{slot_of}
use Rattle.action_rules.proofs.Passing.{sized_slots}
use Rattle.action_rules.proofs.needs.sized.Goals as goal

pub returns : goal.returns
returns c = λ few.
    let all = rw (c.in_ok-slots.ensures, length-map c.in_ok-slots.slots.now slot_of) at few in
    let size : length c.in_ok-slots.slots.now ≡ c.args.dropped + c.args.kept = omega arith in
    let first : length (take c.args.dropped c.in_ok-slots.slots.now) < 4_294_967_296 = omega (arith, all, length-take c.args.dropped c.in_ok-slots.slots.now) in
    rw c.in_ok-slots.ensures (c.untagged.ensures first ∙ sized_slots c.in_ok-slots.slots.now c.args.dropped c.args.kept size)
