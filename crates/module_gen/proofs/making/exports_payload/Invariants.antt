use Rattle.std.proofs.Common.{◌≡◌}
use Rattle.module_gen.specs.Generated.{exports_of}
use Rattle.module_gen.proofs.making.exports_payload.Given as goal

abbrev pub invariant-loop-i : goal.invariant-loop-i
invariant-loop-i l = l.exports ≡ exports_of l.i
