use Rattle.index_tables.specs.Shape.{import_shape, export_shape, fun_shape}
use Rattle.index_tables.proofs.Shapes.{import_is_shape, export_is_shape, fun_is_shape}
use Rattle.index_tables.proofs.Written.{atoms_one, table_one}
use Rattle.index_tables.proofs.laws.a_table_has_one_payload.Goals as goal

pub returns-clause-atoms : goal.returns-clause-atoms
returns-clause-atoms c = atoms_one

pub returns-clause-imports : goal.returns-clause-imports
returns-clause-imports c = table_one import_shape import_is_shape

pub returns-clause-exports : goal.returns-clause-exports
returns-clause-exports c = table_one export_shape export_is_shape

pub returns-clause-funs : goal.returns-clause-funs
returns-clause-funs c = table_one fun_shape fun_is_shape
