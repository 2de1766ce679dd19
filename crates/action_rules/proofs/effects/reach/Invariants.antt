use Rattle.std.proofs.Common.{◌≡◌, ◌≤◌, length}
use Rattle.reg_state.specs.States.{x_of}
use Rattle.action_rules.proofs.effects.reach.Given as goal

abbrev pub invariant-loop : goal.invariant-loop
invariant-loop l = record {
  same : x_of l.x ≡ x_of l.fn.x;
  reached : l.counter ≤ length l.x;
}
