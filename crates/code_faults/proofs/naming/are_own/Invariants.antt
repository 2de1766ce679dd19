use Rattle.std.proofs.Common.{◌≡◌, length}
use Rattle.std.specs.List.{list_all}
use Rattle.op_table.specs.Planned.{value_labels}
use Rattle.code_faults.specs.Naming.{is_own}
use Rattle.code_faults.proofs.naming.are_own.Given as goal

abbrev pub invariant-loop-members : goal.invariant-loop-members
invariant-loop-members l = list_all (is_own l.f) (value_labels l.initial.members) ≡ list_all (is_own l.f) (value_labels l.members)

abbrev pub decreases-loop-members : goal.decreases-loop-members
decreases-loop-members l = length l.members
