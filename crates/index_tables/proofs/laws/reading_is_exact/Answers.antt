use Rattle.bk_codec.proofs.Exact.{exact_whole}
use Rattle.index_tables.specs.declared.refusal.TableRefusal.TheVariants as refusals
use Rattle.index_tables.specs.Shape.{import_shape, export_shape, fun_shape}
use Rattle.index_tables.proofs.Shapes.{import_is_shape, export_is_shape, fun_is_shape}
use Rattle.index_tables.proofs.AtomSpelling.{atoms_agree}
use Rattle.index_tables.proofs.EntrySpelling.{entries_agree}
use Rattle.index_tables.proofs.laws.reading_is_exact.Goals as goal

pub returns-clause-atoms : goal.returns-clause-atoms
returns-clause-atoms c = exact_whole atoms_agree refusals.Rest

pub returns-clause-imports : goal.returns-clause-imports
returns-clause-imports c = λ names. exact_whole (entries_agree import_shape import_is_shape names) refusals.Rest

pub returns-clause-exports : goal.returns-clause-exports
returns-clause-exports c = λ names. exact_whole (entries_agree export_shape export_is_shape names) refusals.Rest

pub returns-clause-funs : goal.returns-clause-funs
returns-clause-funs c = λ names. exact_whole (entries_agree fun_shape fun_is_shape names) refusals.Rest
