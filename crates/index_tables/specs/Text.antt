-- The text of the tables: a line for each record.
use Rattle.std.specs.Prelude.{ℕ, List, ◌++◌, codes, decimal}
use Rattle.std.specs.List.{flat_map}
use Rattle.ext_term.specs.Name.{name_text}
use Rattle.bk_text.specs.Lines.{numbered_lines}
use Rattle.index_tables.specs.Atoms.{atom_name}
use Rattle.index_tables.specs.declared.entry.Import.{Import}
use Rattle.index_tables.specs.declared.entry.Export.{Export}
use Rattle.index_tables.specs.declared.entry.Fun.{Fun}

-- NAME/ARITY, where the name is an atom number
abbrev pub function_text : List (List ℕ) → ℕ → ℕ → List ℕ
function_text names name arity = name_text (atom_name names name) ++ codes "/" ++ decimal arity

-- MODULE:NAME/ARITY
abbrev pub import_text : List (List ℕ) → Import → List ℕ
import_text names x = name_text (atom_name names x.module) ++ codes ":" ++ function_text names x.name x.arity

-- ---- lines

abbrev pub atom_line : ℕ → List ℕ → List ℕ
atom_line n name = decimal n ++ codes " " ++ name_text name ++ codes "\n"

abbrev pub import_line : List (List ℕ) → ℕ → Import → List ℕ
import_line names n x = decimal n ++ codes " " ++ import_text names x ++ codes "\n"

abbrev pub export_line : List (List ℕ) → Export → List ℕ
export_line names x = function_text names x.name x.arity ++ codes " " ++ decimal x.label ++ codes "\n"

abbrev pub fun_line : List (List ℕ) → ℕ → Fun → List ℕ
fun_line names n x =
    decimal n ++ codes " " ++ function_text names x.name x.arity
    ++ codes " label " ++ decimal x.label
    ++ codes " index " ++ decimal x.index
    ++ codes " free " ++ decimal x.free
    ++ codes " unique " ++ decimal x.unique
    ++ codes "\n"

-- ---- tables

abbrev pub atoms_text : List (List ℕ) → List ℕ
atoms_text names = numbered_lines 1 atom_line names

abbrev pub imports_text : List (List ℕ) → List Import → List ℕ
imports_text names xs = numbered_lines 0 (import_line names) xs

abbrev pub exports_text : List (List ℕ) → List Export → List ℕ
exports_text names xs = flat_map (export_line names) xs

abbrev pub funs_text : List (List ℕ) → List Fun → List ℕ
funs_text names xs = numbered_lines 0 (fun_line names) xs
