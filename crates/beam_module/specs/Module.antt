-- A module: what a form has to hold for the code in it to be judged.
use Rattle.std.specs.Prelude.{◌≡◌, ◌≢◌, ℕ, List, [], codes, Option, Some, None}
use Rattle.iff_form.specs.declared.id.Id.{Id}
use Rattle.iff_form.specs.Chunk.{PlainChunk}
use Rattle.iff_form.specs.Form.{IsForm, payload_of}
use Rattle.code_chunk.specs.declared.code.CodeVal.{CodeVal}
use Rattle.code_chunk.specs.Spelling.{SpellsCode}
use Rattle.func_split.specs.Functions.{IsSplitCode, SplitValue}
use Rattle.index_tables.specs.declared.entry.Export.{Export}
use Rattle.index_tables.specs.declared.entry.Fun.{Fun}
use Rattle.index_tables.specs.declared.entry.Import.{Import}
use Rattle.index_tables.specs.Entries.{SpellsExports, SpellsFuns, SpellsImports}
use Rattle.side_tables.specs.declared.literals.Literals.{Literals}
use Rattle.side_tables.specs.declared.literals.Literals.TheVariants.{Plain}
use Rattle.side_tables.specs.LiteralCount.{literal_count}
use Rattle.side_tables.specs.LiteralSpelling.{SpellsLiterals}
use Rattle.beam_module.specs.File.{code_id}
use Rattle.beam_module.specs.Name.{AreAtoms}

abbrev pub imports_id : Id
imports_id = record { 0 = codes "ImpT" }

abbrev pub exports_id : Id
exports_id = record { 0 = codes "ExpT" }

abbrev pub locals_id : Id
locals_id = record { 0 = codes "LocT" }

abbrev pub funs_id : Id
funs_id = record { 0 = codes "FunT" }

abbrev pub literals_id : Id
literals_id = record { 0 = codes "LitT" }

-- a module: its chunks, its atoms, its code as functions, its imports and funs, and how many literals it has, which packed ones do not tell
pub record ModuleValue : Type 0 where
  pub form : List PlainChunk
  pub atoms : List (List ℕ)
  pub code : SplitValue
  pub imports : List Import
  pub funs : List Fun
  pub literals : Option ℕ

-- the table that a payload spells; a chunk that is missing counts as an empty table
abbrev pub IsTable : {A : Type 0} → (A → List ℕ → Type 0) → A → A → Option (List ℕ) → Type 0
IsTable Spelled empty table (Some payload) = Spelled table payload
IsTable Spelled empty table None = table ≡ empty

-- the bytes are a form with atoms, the first of which is the module's name, with code that is functions, and with tables
pub record IsModule (m : ModuleValue) (bytes : List ℕ) : Type 0 where
  pub form : IsForm m.form bytes
  pub atoms : AreAtoms m.atoms m.form
  pub named : m.atoms ≢ []
  pub payload : List ℕ
  pub has_code : payload_of code_id m.form ≡ Some payload
  pub code : CodeVal
  pub code_is : SpellsCode code payload
  pub functions : IsSplitCode code.labels code.functions code.instrs m.code
  pub imports : IsTable (SpellsImports m.atoms) [] m.imports (payload_of imports_id m.form)
  pub exports : List Export
  pub exports_are : IsTable (SpellsExports m.atoms) [] exports (payload_of exports_id m.form)
  pub locals : List Export
  pub locals_are : IsTable (SpellsExports m.atoms) [] locals (payload_of locals_id m.form)
  pub funs : IsTable (SpellsFuns m.atoms) [] m.funs (payload_of funs_id m.form)
  pub literals : Literals
  pub literals_are : IsTable SpellsLiterals (Plain []) literals (payload_of literals_id m.form)
  pub count : m.literals ≡ literal_count literals
