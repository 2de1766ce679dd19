use Rattle.std.proofs.Common.{◌≡◌, ℕ, ◌<◌, ◌≤◌, length}
use Rattle.reg_state.specs.Kinds.{joined_kind}
use Rattle.reg_state.specs.States.{x_of}
use Rattle.reg_state.proofs.join.join_kinds.Given as goal

abbrev pub invariant-loop-i : goal.invariant-loop-i
invariant-loop-i l = record {
  size : length l.a ≡ length l.fn.a;
  done : (k : ℕ) → k < l.i → x_of l.a k ≡ joined_kind (x_of l.fn.a k) (x_of l.b k);
  left : (k : ℕ) → l.i ≤ k → x_of l.a k ≡ x_of l.fn.a k;
}
