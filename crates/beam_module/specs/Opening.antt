-- How a module is opened, and what is refused first.
use Rattle.std.specs.Prelude.{ℕ, List, [], ◌∷◌, Option, Some, None, Result, Ok, Err}
use Rattle.bk_codec.specs.Reading.{◌>>=◌, refused_as}
use Rattle.iff_form.specs.declared.id.Id.{Id}
use Rattle.iff_form.specs.Chunk.{PlainChunk}
use Rattle.iff_form.specs.Form.{payload_of}
use Rattle.code_chunk.specs.Reading.{code_at}
use Rattle.func_split.specs.declared.refusal.SplitRefusal.{SplitRefusal}
use Rattle.func_split.specs.declared.refusal.SplitRefusal.TheVariants as splits
use Rattle.func_split.specs.Reading.{split_of}
use Rattle.index_tables.specs.declared.entry.Fun.{Fun}
use Rattle.index_tables.specs.declared.entry.Import.{Import}
use Rattle.index_tables.specs.Reading.{all_atoms, all_entries}
use Rattle.index_tables.specs.Shape.{Shape, export_shape, fun_shape, import_shape}
use Rattle.side_tables.specs.LiteralCount.{literals_counted}
use Rattle.beam_module.specs.declared.refusal.ModuleRefusal.{ModuleRefusal}
use Rattle.beam_module.specs.declared.refusal.ModuleRefusal.TheVariants as refusals
use Rattle.beam_module.specs.declared.refusal.TableWhy.TheVariants.{Index, Side}
use Rattle.beam_module.specs.File.{code_id}
use Rattle.beam_module.specs.Module.{ModuleValue, exports_id, funs_id, imports_id, literals_id, locals_id}
use Rattle.beam_module.specs.Name.{atom_refusal, atoms_id}
use Rattle.beam_module.specs.Reading.{form_or}

-- the payload of a chunk that has to be there
abbrev pub or_missing : Id → Option (List ℕ) → Result (List ℕ) ModuleRefusal
or_missing id (Some payload) = Ok payload
or_missing id None = Err (refusals.Missing id)

-- atoms, the first of which is the module's name
abbrev pub or_unnamed : List (List ℕ) → Result (List (List ℕ)) ModuleRefusal
or_unnamed [] = Err (refusals.Missing atoms_id)
or_unnamed (name ∷ names) = Ok (name ∷ names)

-- the entries of the table with this id
abbrev pub table_of : {A : Type 0} → Shape A → Id → List (List ℕ) → Option (List ℕ) → Result (List A) ModuleRefusal
table_of shape id names (Some payload) = refused_as (λ e. refusals.Table id (Index e)) (all_entries shape names payload)
table_of shape id names None = Ok []

-- how many literals there are
abbrev pub literals_in : Option (List ℕ) → Result (Option ℕ) ModuleRefusal
literals_in (Some payload) = refused_as (λ e. refusals.Table literals_id (Side e)) (literals_counted payload)
literals_in None = Ok (Some 0)

abbrev pub split_refusal : SplitRefusal → ModuleRefusal
split_refusal (splits.Functions place why) = refusals.Functions place why
split_refusal splits.NoMemory = refusals.NoMemory

-- the tables that code is judged by
pub record TablesRead : Type 0 where
  pub imports : List Import
  pub funs : List Fun
  pub literals : Option ℕ

unfoldable pub tables_in : List PlainChunk → List (List ℕ) → Result TablesRead ModuleRefusal
tables_in chunks names = do
  imports ← table_of import_shape imports_id names (payload_of imports_id chunks)
  exports ← table_of export_shape exports_id names (payload_of exports_id chunks)
  locals ← table_of export_shape locals_id names (payload_of locals_id chunks)
  funs ← table_of fun_shape funs_id names (payload_of funs_id chunks)
  literals ← literals_in (payload_of literals_id chunks)
  Ok (record { imports = imports; funs = funs; literals = literals })

-- the module of these chunks
unfoldable pub module_in : List PlainChunk → Result ModuleValue ModuleRefusal
module_in chunks = do
  atoms ← or_missing atoms_id (payload_of atoms_id chunks)
  payload ← or_missing code_id (payload_of code_id chunks)
  found ← refused_as atom_refusal (all_atoms atoms)
  names ← or_unnamed found
  code ← refused_as refusals.Code (code_at payload)
  tables ← tables_in chunks names
  split ← refused_as split_refusal (split_of code.labels code.functions code.instrs)
  Ok (record { form = chunks; atoms = names; code = split; imports = tables.imports; funs = tables.funs; literals = tables.literals })

-- the module that the bytes are
abbrev pub module_of : List ℕ → Result ModuleValue ModuleRefusal
module_of bytes = form_or bytes >>= module_in
