use Rattle.std.proofs.Common.{arith, ap, length}
use Rattle.module_gen.proofs.Tables.{length_exports}
use Rattle.module_gen.proofs.making.exports_payload.Goals as goal

pub write_exports-requires : goal.write_exports-requires
write_exports-requires c = omega (arith, ap length c.loop-i.invariant, length_exports c.loop-i.i, c.requires)
