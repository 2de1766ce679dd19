use Rattle.std.proofs.Common.{arith}
use Rattle.std.proofs.lemmas.Result.{IfOk-weaker}
use Rattle.bk_codec.proofs.Ended.{found, only}
use Rattle.index_tables.specs.declared.refusal.TableRefusal.TheVariants as refusals
use Rattle.bk_codec.proofs.Refused.{refusal}
use Rattle.index_tables.specs.Atoms.{SpellsAtom, SpellsAtoms, FitsAtoms}
use Rattle.index_tables.specs.Reading.{atom_at}
use Rattle.index_tables.specs.Refusal.{NoAtom}
use Rattle.index_tables.proofs.AtomSpelling.{atom_agrees, atoms_agree, atom_refused, SpellsAtoms-fits}
use Rattle.index_tables.proofs.reading.read_atoms.Goals as goal

pub returns-clause-found : goal.returns-clause-found
returns-clause-found c =
    found atoms_agree refusals.NoMemory refusals.Rest c.args.s.now c.all_atoms.result (λ i. omega (arith, c.type_inv.s i)) c.all_atoms.ensures

pub returns-clause-fits : goal.returns-clause-fits
returns-clause-fits c =
    IfOk-weaker c.all_atoms.result (λ names. SpellsAtoms names c.args.s.now) FitsAtoms (λ names is. SpellsAtoms-fits names c.args.s.now is)
    (found atoms_agree refusals.NoMemory refusals.Rest c.args.s.now c.all_atoms.result (λ i. omega (arith, c.type_inv.s i)) c.all_atoms.ensures)

pub returns-clause-only : goal.returns-clause-only
returns-clause-only c = λ names is. only atoms_agree refusals.NoMemory refusals.Rest c.args.s.now c.all_atoms.result c.all_atoms.ensures names is

pub returns-clause-refused : goal.returns-clause-refused
returns-clause-refused c =
    refusal atom_at SpellsAtom NoAtom atom_agrees atom_refused refusals.NoMemory refusals.Cut refusals.Rest 1 c.args.s.now c.all_atoms.result (λ i. omega (arith, c.type_inv.s i)) c.all_atoms.ensures
