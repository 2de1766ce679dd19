use Rattle.index_tables.specs.Shape.{import_shape, export_shape, fun_shape}
use Rattle.index_tables.proofs.Shapes.{import_is_shape, export_is_shape, fun_is_shape}
use Rattle.index_tables.proofs.EntrySpelling.{entries_decided}
use Rattle.index_tables.proofs.laws.entries_are_decided.Goals as goal

pub returns-clause-imports : goal.returns-clause-imports
returns-clause-imports c = entries_decided import_shape import_is_shape

pub returns-clause-exports : goal.returns-clause-exports
returns-clause-exports c = entries_decided export_shape export_is_shape

pub returns-clause-funs : goal.returns-clause-funs
returns-clause-funs c = entries_decided fun_shape fun_is_shape
