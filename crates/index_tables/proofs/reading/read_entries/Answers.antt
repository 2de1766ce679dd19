use Rattle.std.proofs.Common.{arith}
use Rattle.std.proofs.lemmas.Result.{IfOk-weaker}
use Rattle.bk_codec.proofs.Ended.{found, only}
use Rattle.index_tables.specs.declared.refusal.TableRefusal.TheVariants as refusals
use Rattle.bk_codec.proofs.Refused.{refusal}
use Rattle.index_tables.specs.Reading.{entry_at}
use Rattle.index_tables.specs.Refusal.{NoEntry}
use Rattle.index_tables.specs.Entries.{SpellsEntry, SpellsTable, NamesAtoms, FitsWords}
use Rattle.index_tables.proofs.EntrySpelling.{entry_agrees, entries_agree, entry_refused, SpellsTable-names, SpellsTable-fits}
use Rattle.index_tables.proofs.reading.read_entries.Goals as goal

pub returns-clause-found : goal.returns-clause-found
returns-clause-found g c =
    found (entries_agree g.T.Entry.shape g.met.T.Entry.is_shape c.args.atoms.now) refusals.NoMemory refusals.Rest c.args.s.now c.all_entries.result (λ i. omega (arith, c.type_inv.s i)) c.all_entries.ensures

pub returns-clause-named : goal.returns-clause-named
returns-clause-named g c =
    let shape = g.T.Entry.shape in
    IfOk-weaker c.all_entries.result (λ xs. SpellsTable shape.words shape.atoms c.args.atoms.now xs c.args.s.now) (NamesAtoms shape.atoms c.args.atoms.now)
    (λ xs is. SpellsTable-names shape g.met.T.Entry.is_shape c.args.atoms.now xs c.args.s.now is)
    (found (entries_agree shape g.met.T.Entry.is_shape c.args.atoms.now) refusals.NoMemory refusals.Rest c.args.s.now c.all_entries.result (λ i. omega (arith, c.type_inv.s i)) c.all_entries.ensures)

pub returns-clause-fits : goal.returns-clause-fits
returns-clause-fits g c =
    let shape = g.T.Entry.shape in
    IfOk-weaker c.all_entries.result (λ xs. SpellsTable shape.words shape.atoms c.args.atoms.now xs c.args.s.now) (FitsWords shape.words)
    (λ xs is. SpellsTable-fits shape g.met.T.Entry.is_shape c.args.atoms.now xs c.args.s.now is)
    (found (entries_agree shape g.met.T.Entry.is_shape c.args.atoms.now) refusals.NoMemory refusals.Rest c.args.s.now c.all_entries.result (λ i. omega (arith, c.type_inv.s i)) c.all_entries.ensures)

pub returns-clause-only : goal.returns-clause-only
returns-clause-only g c = λ xs is.
    only (entries_agree g.T.Entry.shape g.met.T.Entry.is_shape c.args.atoms.now) refusals.NoMemory refusals.Rest c.args.s.now c.all_entries.result c.all_entries.ensures xs is

pub returns-clause-refused : goal.returns-clause-refused
returns-clause-refused g c =
    let shape = g.T.Entry.shape in
    let names = c.args.atoms.now in
    let is_shape = g.met.T.Entry.is_shape in
    refusal (entry_at shape names) (SpellsEntry shape.words shape.atoms names) (NoEntry shape.width shape.words shape.atoms names) (entry_agrees shape is_shape names) (entry_refused shape is_shape names)
    refusals.NoMemory refusals.Cut refusals.Rest 0 c.args.s.now c.all_entries.result (λ i. omega (arith, c.type_inv.s i)) c.all_entries.ensures
