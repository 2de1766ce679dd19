use Rattle.std.proofs.Common.{◌≡◌, ◌++◌, drop}
use Rattle.op_table.specs.Planned.{register_writes}
use Rattle.op_table.proofs.actions.add_register_writes.Given as goal

abbrev pub invariant-loop-member : goal.invariant-loop-member
invariant-loop-member l = l.fn.list ++ register_writes l.members ≡ l.list ++ register_writes (drop l.member-index l.members)
