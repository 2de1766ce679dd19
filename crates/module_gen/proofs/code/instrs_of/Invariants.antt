use Rattle.std.proofs.Common.{◌≡◌}
use Rattle.module_gen.specs.Code.{functions_of}
use Rattle.module_gen.proofs.code.instrs_of.Given as goal

abbrev pub invariant-loop-i : goal.invariant-loop-i
invariant-loop-i l = l.instrs ≡ functions_of l.functions l.i
