use Rattle.std.proofs.Common.{◌≡◌, ◌++◌, drop}
use Rattle.op_table.specs.Planned.{reads}
use Rattle.op_table.proofs.actions.add_reads.Given as goal

abbrev pub invariant-loop-i : goal.invariant-loop-i
invariant-loop-i l = l.fn.list ++ reads l.roles l.operands ≡ l.list ++ reads (drop l.i l.roles) (drop l.i l.operands)
