use Rattle.std.proofs.Common.{◌≡◌, ◌++◌, take}
use Rattle.std.specs.List.{flat_map}
use Rattle.validator.specs.Text.{fault_line}
use Rattle.validator.proofs.text.put_faults.Given as goal

abbrev pub invariant-faults : goal.invariant-faults
invariant-faults l = l.out.items ≡ l.fn.out.items ++ flat_map (fault_line l.m) (take l.fault-index l.faults)
