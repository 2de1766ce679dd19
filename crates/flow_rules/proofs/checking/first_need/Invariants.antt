use Rattle.std.proofs.Common.{◌≡◌, drop}
use Rattle.reg_state.specs.States.{frame_of, store_of}
use Rattle.action_rules.specs.KindDomain.{kinds}
use Rattle.action_rules.specs.Known.{HasFewSlots}
use Rattle.action_rules.specs.Steady.{needs_now}
use Rattle.flow_rules.proofs.checking.first_need.Given as goal

abbrev pub invariant-loop-action : goal.invariant-loop-action
invariant-loop-action l = HasFewSlots (frame_of l.s.frame) → needs_now kinds l.actions (store_of l.s) ≡ needs_now kinds (drop l.action-index l.actions) (store_of l.s)
