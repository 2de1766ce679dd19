use Rattle.std.proofs.Common.{◌≡◌, ◌+◌, drop}
use Rattle.op_table.specs.Roles.{misshapen, misshapen_from}
use Rattle.op_table.proofs.shape.misshapen.Given as goal

abbrev pub invariant-loop-i : goal.invariant-loop-i
invariant-loop-i l = misshapen l.roles l.operands ≡ misshapen_from (l.i + 1) (drop l.i l.roles) (drop l.i l.operands)
