use Rattle.std.proofs.Common.{◌≡◌, drop}
use Rattle.reg_state.specs.States.{slots_of}
use Rattle.action_rules.specs.KindDomain.{kinds}
use Rattle.action_rules.specs.Needs.{full_from}
use Rattle.action_rules.proofs.needs.full_slots.Given as goal

abbrev pub invariant-loop-i : goal.invariant-loop-i
invariant-loop-i l = full_from kinds 0 (slots_of l.slots) ≡ full_from kinds l.i (slots_of (drop l.i l.slots))
