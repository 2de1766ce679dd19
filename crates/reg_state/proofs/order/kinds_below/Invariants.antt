use Rattle.std.proofs.Common.{ℕ, ◌<◌}
use Rattle.reg_state.specs.Kinds.{KindBelow}
use Rattle.reg_state.specs.States.{x_of}
use Rattle.reg_state.proofs.order.kinds_below.Given as goal

abbrev pub invariant-loop-i : goal.invariant-loop-i
invariant-loop-i l = (k : ℕ) → k < l.i → KindBelow (x_of l.a k) (x_of l.b k)
