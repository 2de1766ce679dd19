use Rattle.std.proofs.Common.{sym, subst}
use Rattle.ext_term.specs.Writing.{IsWritable}
use Rattle.module_gen.proofs.Versions.{versions_writable}
use Rattle.module_gen.proofs.making.attributes_payload.Goals as goal

pub write_term-requires : goal.write_term-requires
write_term-requires c = subst (IsWritable 256) (sym c.in_ok-versions.ensures) (versions_writable c.args.functions)
