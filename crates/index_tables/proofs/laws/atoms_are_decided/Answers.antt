use Rattle.bk_codec.proofs.Refused.{decided}
use Rattle.index_tables.specs.declared.refusal.TableRefusal.TheVariants as refusals
use Rattle.index_tables.specs.Atoms.{SpellsAtom}
use Rattle.index_tables.specs.Reading.{atom_at}
use Rattle.index_tables.specs.Refusal.{NoAtom}
use Rattle.index_tables.proofs.AtomSpelling.{atom_agrees, atom_refused}
use Rattle.index_tables.proofs.laws.atoms_are_decided.Goals as goal

pub returns : goal.returns
returns c = decided atom_at SpellsAtom NoAtom atom_agrees atom_refused refusals.Cut refusals.Rest 1
