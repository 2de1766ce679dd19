use Rattle.std.proofs.Common.{◌≡◌, ℕ, suc, length, All}
use Rattle.ext_term.specs.Writing.{IsWritable}
use Rattle.ext_term.proofs.tests.ints.Given as goal

abbrev pub invariant-loop-value : goal.invariant-loop-value
invariant-loop-value l = (length l.items ≡ l.value-index) × ((levels : ℕ) → All (IsWritable (suc levels)) l.items)
