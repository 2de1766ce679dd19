use Rattle.std.proofs.Common.{◌≡◌, ◌++◌, length}
use Rattle.op_table.specs.Planned.{value_labels}
use Rattle.op_table.proofs.planning.add_value_labels.Given as goal

abbrev pub invariant-loop-members : goal.invariant-loop-members
invariant-loop-members l = l.initial.list ++ value_labels l.initial.members ≡ l.list ++ value_labels l.members

abbrev pub decreases-loop-members : goal.decreases-loop-members
decreases-loop-members l = length l.members
