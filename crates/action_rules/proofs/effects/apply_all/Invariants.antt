use Rattle.std.proofs.Common.{◌≡◌, drop}
use Rattle.reg_state.specs.States.{store_of}
use Rattle.action_rules.specs.Known.{known_effects}
use Rattle.action_rules.proofs.effects.apply_all.Given as goal

abbrev pub invariant-loop-action : goal.invariant-loop-action
invariant-loop-action l = known_effects l.actions (store_of l.fn.s) ≡ known_effects (drop l.action-index l.actions) (store_of l.s)
