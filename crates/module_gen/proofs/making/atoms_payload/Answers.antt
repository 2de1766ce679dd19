use Rattle.std.proofs.Common.{sym, subst}
use Rattle.index_tables.specs.Atoms.{FitsAtoms}
use Rattle.module_gen.proofs.Tables.{atoms_fit}
use Rattle.module_gen.proofs.making.atoms_payload.Goals as goal

pub write_atoms-requires : goal.write_atoms-requires
write_atoms-requires c = subst FitsAtoms (sym c.in_ok-atoms.ensures) (atoms_fit c.args.functions c.requires)
