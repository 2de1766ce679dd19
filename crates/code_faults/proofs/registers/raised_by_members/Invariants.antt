use Rattle.std.proofs.Common.{◌≡◌, drop}
use Rattle.op_table.specs.Rules.{registers}
use Rattle.code_faults.specs.Registers.{raised_by}
use Rattle.code_faults.proofs.registers.raised_by_members.Given as goal

abbrev pub invariant-loop-member : goal.invariant-loop-member
invariant-loop-member l = raised_by l.initial.bound (registers l.members) ≡ raised_by l.bound (registers (drop l.member-index l.members))
