use Rattle.std.proofs.Common.{◌≡◌, ◌++◌, length}
use Rattle.op_table.specs.Planned.{key_reads}
use Rattle.op_table.proofs.actions.add_key_reads.Given as goal

abbrev pub invariant-loop-members : goal.invariant-loop-members
invariant-loop-members l = l.initial.list ++ key_reads l.initial.members ≡ l.list ++ key_reads l.members

abbrev pub decreases-loop-members : goal.decreases-loop-members
decreases-loop-members l = length l.members
