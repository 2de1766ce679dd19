use Rattle.std.proofs.Common.{◌≡◌}
use Rattle.std.specs.Iterator.Adapters.{zip_first, zip_second}
use Rattle.std.specs.Slice.Iter.{iter_rest}
use Rattle.op_table.specs.Rules.{named}
use Rattle.code_faults.specs.Registers.{raised_by}
use Rattle.code_faults.proofs.registers.raised_by_operands.Given as goal

abbrev pub invariant-loop-role : goal.invariant-loop-role
invariant-loop-role l = raised_by l.initial.bound (named l.roles l.operands) ≡ raised_by l.bound (named (iter_rest (zip_first l.role-iterator)) (iter_rest (zip_second l.role-iterator)))
