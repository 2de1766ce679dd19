use Rattle.std.proofs.Common.{◌≡◌, ◌+◌, drop}
use Rattle.code_faults.specs.Operands.{operands_fault}
use Rattle.code_faults.proofs.operands.operands_fault.Given as goal

abbrev pub invariant-loop-i : goal.invariant-loop-i
invariant-loop-i l = operands_fault l.m l.f l.arguments 1 l.roles l.operands ≡ operands_fault l.m l.f l.arguments (l.i + 1) (drop l.i l.roles) (drop l.i l.operands)
