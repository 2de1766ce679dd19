use Rattle.std.proofs.Common.{◌≡◌, ◌++◌, take}
use Rattle.validator.proofs.validating.add_faults.Given as goal

abbrev pub invariant-faults : goal.invariant-faults
invariant-faults l = l.report ≡ l.fn.report ++ take l.fault-index l.fault-items
