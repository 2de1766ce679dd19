use Rattle.std.proofs.Common.{◌≡◌, ◌++◌, drop}
use Rattle.op_table.specs.Planned.{register_reads}
use Rattle.op_table.proofs.actions.add_register_reads.Given as goal

abbrev pub invariant-loop-member : goal.invariant-loop-member
invariant-loop-member l = l.fn.list ++ register_reads l.members ≡ l.list ++ register_reads (drop l.member-index l.members)
