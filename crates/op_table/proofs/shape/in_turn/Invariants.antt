use Rattle.std.proofs.Common.{◌≡◌, length}
use Rattle.op_table.specs.Roles.{in_turn}
use Rattle.op_table.proofs.shape.in_turn.Given as goal

abbrev pub decreases-loop-members : goal.decreases-loop-members
decreases-loop-members l = length l.members

abbrev pub invariant-loop-members : goal.invariant-loop-members
invariant-loop-members l = in_turn l.first l.second l.initial.members ≡ in_turn l.first l.second l.members
