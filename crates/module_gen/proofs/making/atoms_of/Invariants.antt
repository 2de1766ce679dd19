use Rattle.std.proofs.Common.{◌≡◌}
use Rattle.module_gen.specs.Generated.{atoms_of}
use Rattle.module_gen.proofs.making.atoms_of.Given as goal

abbrev pub invariant-loop-i : goal.invariant-loop-i
invariant-loop-i l = l.atoms ≡ atoms_of l.i
