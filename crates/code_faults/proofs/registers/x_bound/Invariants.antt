use Rattle.std.proofs.Common.{◌≡◌, drop}
use Rattle.code_faults.specs.Registers.{named_in, raised_by, x_bound}
use Rattle.code_faults.proofs.registers.x_bound.Given as goal

abbrev pub invariant-loop-instr : goal.invariant-loop-instr
invariant-loop-instr l = x_bound l.f ≡ raised_by l.bound (named_in (drop l.instr-index l.instr-items))
