use Rattle.std.proofs.Common.{◌≡◌, ◌-◌}
use Rattle.reg_state.specs.States.{x_of}
use Rattle.action_rules.specs.KindDomain.{kinds}
use Rattle.action_rules.specs.Needs.{live_from}
use Rattle.action_rules.proofs.needs.live.Given as goal

abbrev pub invariant-loop-i : goal.invariant-loop-i
invariant-loop-i l = live_from kinds (x_of l.x) 0 l.n ≡ live_from kinds (x_of l.x) l.i (l.n - l.i)
