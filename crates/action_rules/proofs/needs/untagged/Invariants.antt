use Rattle.std.proofs.Common.{◌≡◌, drop}
use Rattle.reg_state.specs.States.{slots_of}
use Rattle.action_rules.specs.Needs.{untagged_from}
use Rattle.action_rules.proofs.needs.untagged.Given as goal

abbrev pub invariant-loop-i : goal.invariant-loop-i
invariant-loop-i l = untagged_from 0 (slots_of l.slots) ≡ untagged_from l.i (slots_of (drop l.i l.slots))
