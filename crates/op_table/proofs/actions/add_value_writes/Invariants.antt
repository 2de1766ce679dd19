use Rattle.std.proofs.Common.{◌≡◌, ◌++◌, length}
use Rattle.op_table.specs.Planned.{register_writes, values}
use Rattle.op_table.proofs.actions.add_value_writes.Given as goal

abbrev pub invariant-loop-members : goal.invariant-loop-members
invariant-loop-members l = l.initial.list ++ register_writes (values l.initial.members) ≡ l.list ++ register_writes (values l.members)

abbrev pub decreases-loop-members : goal.decreases-loop-members
decreases-loop-members l = length l.members
