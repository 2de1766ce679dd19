use Rattle.std.proofs.Common.{◌≡◌, ℕ, suc, length, All}
use Rattle.ext_term.specs.Writing.{IsWritable}
use Rattle.ext_term.proofs.tests.nils.Given as goal

abbrev pub invariant-loop : goal.invariant-loop
invariant-loop l = (length l.items ≡ l.counter) × ((levels : ℕ) → All (IsWritable (suc levels)) l.items)
