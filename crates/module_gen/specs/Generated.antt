-- The file of a generated module, and the module that it is.
use Rattle.std.specs.Prelude.{ℕ, zero, suc, ◌+◌, ◌*◌, false, Some, List, [], ◌∷◌, ◌++◌, codes, decimal}
use Rattle.iff_form.specs.declared.id.Id.{Id}
use Rattle.index_tables.specs.declared.entry.Export.{Export}
use Rattle.index_tables.specs.Canonical.{canonical_atoms, canonical_exports, canonical_imports}
use Rattle.ext_term.specs.declared.term.Term.{Term}
use Rattle.ext_term.specs.declared.term.Term.TheVariants as terms
use Rattle.ext_term.specs.Writing.{file_spelling}
use Rattle.beam_module.specs.declared.chunk_value.ChunkVal.TheVariants.{Code, Raw}
use Rattle.beam_module.specs.Canonical.{canonical_chunks}
use Rattle.beam_module.specs.File.{FileChunk, code_id}
use Rattle.beam_module.specs.Module.{ModuleValue, exports_id, imports_id}
use Rattle.beam_module.specs.Name.{atoms_id}
use Rattle.module_gen.specs.Code.{code_of, split_of}

-- the most functions of a generated module
abbrev pub most_functions : ℕ
most_functions = 2000

-- f1, f2 and so on
abbrev pub function_name : ℕ → List ℕ
function_name k = codes "f" ++ decimal k

-- the name of the module, and then those of its first k functions
abbrev pub atoms_of : ℕ → List (List ℕ)
atoms_of zero = codes "gen" ∷ []
atoms_of (suc k) = atoms_of k ++ function_name (suc k) ∷ []

-- function i, counted from 0, takes one argument and is entered at its second label
abbrev pub export_of : ℕ → Export
export_of i = record { name = i + 2; arity = 1; label = 4 * i + 2 }

abbrev pub exports_of : ℕ → List Export
exports_of zero = []
exports_of (suc k) = exports_of k ++ export_of k ∷ []

-- [{vsn,[N]}]
abbrev pub versions : ℕ → Term
versions n = terms.List (terms.Tuple (terms.Atom (codes "vsn") ∷ terms.List (terms.Int false n ∷ []) terms.Nil ∷ []) ∷ []) terms.Nil

abbrev pub strings_id : Id
strings_id = record { 0 = codes "StrT" }

abbrev pub attributes_id : Id
attributes_id = record { 0 = codes "Attr" }

-- the file of n functions
abbrev pub generated : ℕ → List FileChunk
generated n =
    (atoms_id, Raw (canonical_atoms (atoms_of n)))
    ∷ (code_id, Code (code_of n))
    ∷ (strings_id, Raw [])
    ∷ (imports_id, Raw (canonical_imports []))
    ∷ (exports_id, Raw (canonical_exports (exports_of n)))
    ∷ (attributes_id, Raw (file_spelling (versions n)))
    ∷ []

-- the module that the file of n functions is
abbrev pub generated_module : ℕ → ModuleValue
generated_module n = record {
  form = canonical_chunks (generated n);
  atoms = atoms_of n;
  code = split_of n;
  imports = [];
  funs = [];
  literals = Some 0;
}
