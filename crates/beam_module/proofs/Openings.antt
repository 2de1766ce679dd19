-- A module is opened exactly where the bytes are it.
use Rattle.std.proofs.Common.{◌≡◌, ◌≢◌, ℕ, List, [], ◌∷◌, Result, Ok, refl, sym, ap, subst, ◌∙◌}
use Rattle.std.specs.Prelude.{◌↔◌, Option, Some, None}
use Rattle.std.specs.List.{AllByRecursion}
use Rattle.bk_codec.specs.Exact.{IsExact}
use Rattle.bk_codec.specs.Reading.{◌>>=◌, refused_as}
use Rattle.bk_codec.specs.Spelling.{IsBytes}
use Rattle.bk_codec.proofs.Exact.{exact_on_bytes}
use Rattle.bk_codec.proofs.Steps.{bind_ok, bind_at_ok, ok_is, refused_as_ok}
use Rattle.iff_form.specs.declared.id.Id.{Id}
use Rattle.iff_form.specs.Chunk.{PlainChunk}
use Rattle.iff_form.specs.Form.{IsForm, payload_of}
use Rattle.iff_form.specs.Reading.{form_of}
use Rattle.iff_form.proofs.Payloads.{payload_at_fits}
use Rattle.code_chunk.specs.declared.code.CodeVal.{CodeVal}
use Rattle.code_chunk.specs.Reading.{code_at}
use Rattle.code_chunk.specs.Spelling.{SpellsCode}
use Rattle.func_split.specs.Functions.{IsSplitCode, SplitValue}
use Rattle.func_split.specs.Reading.{split_of}
use Rattle.index_tables.specs.declared.entry.Export.{Export}
use Rattle.index_tables.specs.declared.entry.Fun.{Fun}
use Rattle.index_tables.specs.declared.entry.Import.{Import}
use Rattle.index_tables.specs.Atoms.{SpellsAtoms}
use Rattle.index_tables.specs.Entries.{SpellsExports, SpellsFuns, SpellsImports}
use Rattle.index_tables.specs.Reading.{all_atoms, all_entries}
use Rattle.index_tables.specs.Shape.{Shape, export_shape, fun_shape, import_shape}
use Rattle.side_tables.specs.declared.literals.Literals.{Literals}
use Rattle.side_tables.specs.declared.literals.Literals.TheVariants.{Plain}
use Rattle.side_tables.specs.LiteralCount.{literal_count, literals_counted}
use Rattle.side_tables.specs.LiteralReading.{literals_of}
use Rattle.side_tables.specs.LiteralSpelling.{SpellsLiterals}
use Rattle.beam_module.specs.declared.refusal.ModuleRefusal.{ModuleRefusal}
use Rattle.beam_module.specs.declared.refusal.ModuleRefusal.TheVariants as refusals
use Rattle.beam_module.specs.declared.refusal.TableWhy.TheVariants.{Index, Side}
use Rattle.beam_module.specs.File.{code_id}
use Rattle.beam_module.specs.Module.{IsModule, IsTable, ModuleValue, exports_id, funs_id, imports_id, literals_id, locals_id}
use Rattle.beam_module.specs.Name.{atom_refusal, atoms_id}
use Rattle.beam_module.specs.Opening.{TablesRead, literals_in, module_in, module_of, or_missing, or_unnamed, split_refusal, table_of, tables_in}
use Rattle.beam_module.specs.Reading.{form_or}

abbrev HasBytes : List PlainChunk → Type 0
HasBytes chunks = AllByRecursion (λ c. IsBytes c.payload) chunks

-- ---- a payload that has to be there, and atoms that have to be some

missing_ok : (id : Id) (found : Option (List ℕ)) (payload : List ℕ) → or_missing id found ≡ Ok payload → found ≡ Some payload
missing_ok id (Some other) payload h = ap (λ (p : List ℕ). Some p) (ok_is {E = ModuleRefusal} other payload h)
missing_ok id None payload h = absurd cc

unnamed_ok : (found names : List (List ℕ)) → or_unnamed found ≡ Ok names → (found ≡ names) × (names ≢ [])
unnamed_ok [] names h = absurd cc
unnamed_ok (x ∷ xs) names h =
    let same : x ∷ xs ≡ names = ok_is {E = ModuleRefusal} (x ∷ xs) names h in
    (same, λ none. let both : x ∷ xs ≡ [] = same ∙ none in cc)

pub unnamed_again : (names : List (List ℕ)) → names ≢ [] → or_unnamed names ≡ Ok names
unnamed_again [] some = absurd (some refl)
unnamed_again (x ∷ xs) some = refl

-- ---- one table

table_takes : {A : Type 0} (shape : Shape A) (names : List (List ℕ)) (Spelled : List A → List ℕ → Type 0) → IsExact (all_entries shape names) Spelled
    → (id : Id) (chunks : List PlainChunk) → HasBytes chunks → (found : Option (List ℕ)) → payload_of id chunks ≡ found → (xs : List A) → table_of shape id names found ≡ Ok xs
    → IsTable Spelled [] xs found
table_takes shape names Spelled exact id chunks fits (Some payload) is xs h =
    (exact.accepted payload xs (payload_at_fits id chunks payload fits is)).0 (refused_as_ok (λ e. refusals.Table id (Index e)) (all_entries shape names payload) xs h)
table_takes shape names Spelled exact id chunks fits None is xs h = sym (ok_is {E = ModuleRefusal} [] xs h)

table_again : {A : Type 0} (shape : Shape A) (names : List (List ℕ)) (Spelled : List A → List ℕ → Type 0) → IsExact (all_entries shape names) Spelled
    → (id : Id) (chunks : List PlainChunk) → HasBytes chunks → (found : Option (List ℕ)) → payload_of id chunks ≡ found → (xs : List A) → IsTable Spelled [] xs found
    → table_of shape id names found ≡ Ok xs
table_again shape names Spelled exact id chunks fits (Some payload) is xs spelled =
    ap (refused_as (λ e. refusals.Table id (Index e))) ((exact.accepted payload xs (payload_at_fits id chunks payload fits is)).1 spelled)
table_again {A} shape names Spelled exact id chunks fits None is xs empty = ap (λ (ys : List A). Ok ys) (sym empty)

-- ---- the literals

pub record AreLiterals (count : Option ℕ) (found : Option (List ℕ)) : Type 0 where
  pub literals : Literals
  pub are : IsTable SpellsLiterals (Plain []) literals found
  pub count_is : count ≡ literal_count literals

module _ (literals_exact : IsExact literals_of SpellsLiterals) where
  literals_take : (chunks : List PlainChunk) → HasBytes chunks → (found : Option (List ℕ)) → payload_of literals_id chunks ≡ found → (count : Option ℕ) → literals_in found ≡ Ok count
      → AreLiterals count found
  literals_take chunks fits (Some payload) is count h =
      let counted = refused_as_ok (λ e. refusals.Table literals_id (Side e)) (literals_counted payload) count h in
      let read = bind_ok (literals_of payload) (λ literals. Ok (literal_count literals)) count counted in
      let spelled = (literals_exact.accepted payload read.0 (payload_at_fits literals_id chunks payload fits is)).0 read.1 in
      record { literals = read.0; are = spelled; count_is = sym (ok_is (literal_count read.0) count read.2) }
  literals_take chunks fits None is count h = record { literals = Plain []; are = refl; count_is = sym (ok_is {E = ModuleRefusal} (Some 0) count h) }

  literals_again : (chunks : List PlainChunk) → HasBytes chunks → (found : Option (List ℕ)) → payload_of literals_id chunks ≡ found → (count : Option ℕ) → AreLiterals count found
      → literals_in found ≡ Ok count
  literals_again chunks fits (Some payload) is count has =
      let read = (literals_exact.accepted payload has.literals (payload_at_fits literals_id chunks payload fits is)).1 has.are in
      let counted : literals_counted payload ≡ Ok (literal_count has.literals) = bind_at_ok (literals_of payload) (λ literals. Ok (literal_count literals)) has.literals read in
      ap (refused_as (λ e. refusals.Table literals_id (Side e))) counted ∙ ap (λ (n : Option ℕ). Ok n) (sym has.count_is)
  literals_again chunks fits None is count has =
      ap (λ (ls : Literals). Ok (literal_count ls)) (sym has.are) ∙ ap (λ (n : Option ℕ). Ok n) (sym has.count_is)

-- ---- all of the tables, step by step

abbrev tables_with : List Import → List Fun → Option ℕ → Result TablesRead ModuleRefusal
tables_with imports funs literals = Ok (record { imports = imports; funs = funs; literals = literals })

abbrev after_funs : List PlainChunk → List Import → List Fun → Result TablesRead ModuleRefusal
after_funs chunks imports funs = literals_in (payload_of literals_id chunks) >>= λ literals. tables_with imports funs literals

abbrev after_locals : List PlainChunk → List (List ℕ) → List Import → Result TablesRead ModuleRefusal
after_locals chunks names imports = table_of fun_shape funs_id names (payload_of funs_id chunks) >>= λ funs. after_funs chunks imports funs

abbrev after_exports : List PlainChunk → List (List ℕ) → List Import → Result TablesRead ModuleRefusal
after_exports chunks names imports = table_of export_shape locals_id names (payload_of locals_id chunks) >>= λ locals. after_locals chunks names imports

abbrev after_imports : List PlainChunk → List (List ℕ) → List Import → Result TablesRead ModuleRefusal
after_imports chunks names imports = table_of export_shape exports_id names (payload_of exports_id chunks) >>= λ exports. after_exports chunks names imports

pub record AreTables (chunks : List PlainChunk) (names : List (List ℕ)) (t : TablesRead) : Type 0 where
  pub imports : IsTable (SpellsImports names) [] t.imports (payload_of imports_id chunks)
  pub exports : List Export
  pub exports_are : IsTable (SpellsExports names) [] exports (payload_of exports_id chunks)
  pub locals : List Export
  pub locals_are : IsTable (SpellsExports names) [] locals (payload_of locals_id chunks)
  pub funs : IsTable (SpellsFuns names) [] t.funs (payload_of funs_id chunks)
  pub literals : AreLiterals t.literals (payload_of literals_id chunks)

-- ---- the module of chunks, step by step

abbrev module_with : List PlainChunk → List (List ℕ) → TablesRead → SplitValue → Result ModuleValue ModuleRefusal
module_with chunks names tables split = Ok (record { form = chunks; atoms = names; code = split; imports = tables.imports; funs = tables.funs; literals = tables.literals })

abbrev after_tables : List PlainChunk → List (List ℕ) → CodeVal → TablesRead → Result ModuleValue ModuleRefusal
after_tables chunks names code tables = refused_as split_refusal (split_of code.labels code.functions code.instrs) >>= λ split. module_with chunks names tables split

abbrev after_code : List PlainChunk → List (List ℕ) → CodeVal → Result ModuleValue ModuleRefusal
after_code chunks names code = tables_in chunks names >>= λ tables. after_tables chunks names code tables

abbrev after_names : List PlainChunk → List ℕ → List (List ℕ) → Result ModuleValue ModuleRefusal
after_names chunks payload names = refused_as refusals.Code (code_at payload) >>= λ code. after_code chunks names code

abbrev after_found : List PlainChunk → List ℕ → List (List ℕ) → Result ModuleValue ModuleRefusal
after_found chunks payload found = or_unnamed found >>= λ names. after_names chunks payload names

abbrev after_payloads : List PlainChunk → List ℕ → List ℕ → Result ModuleValue ModuleRefusal
after_payloads chunks atoms payload = refused_as atom_refusal (all_atoms atoms) >>= λ found. after_found chunks payload found

abbrev after_atoms : List PlainChunk → List ℕ → Result ModuleValue ModuleRefusal
after_atoms chunks atoms = or_missing code_id (payload_of code_id chunks) >>= λ payload. after_payloads chunks atoms payload

module _ (forms_exact : IsExact form_of IsForm)
    (payloads_fit : (chunks : List PlainChunk) (bytes : List ℕ) → IsForm chunks bytes → IsBytes bytes → HasBytes chunks)
    (codes_exact : IsExact code_at SpellsCode)
    (splits_exact : (code : CodeVal) (s : SplitValue) → (split_of code.labels code.functions code.instrs ≡ Ok s) ↔ IsSplitCode code.labels code.functions code.instrs s)
    (atoms_exact : IsExact all_atoms SpellsAtoms)
    (imports_exact : (names : List (List ℕ)) → IsExact (all_entries import_shape names) (SpellsImports names))
    (exports_exact : (names : List (List ℕ)) → IsExact (all_entries export_shape names) (SpellsExports names))
    (funs_exact : (names : List (List ℕ)) → IsExact (all_entries fun_shape names) (SpellsFuns names))
    (literals_exact : IsExact literals_of SpellsLiterals) where
  tables_take : (chunks : List PlainChunk) (names : List (List ℕ)) (t : TablesRead) → HasBytes chunks → tables_in chunks names ≡ Ok t → AreTables chunks names t
  unfolding tables_in
  tables_take chunks names t fits h =
      let imports = bind_ok (table_of import_shape imports_id names (payload_of imports_id chunks)) (λ imports. after_imports chunks names imports) t h in
      let exports = bind_ok (table_of export_shape exports_id names (payload_of exports_id chunks)) (λ _. after_exports chunks names imports.0) t imports.2 in
      let locals = bind_ok (table_of export_shape locals_id names (payload_of locals_id chunks)) (λ _. after_locals chunks names imports.0) t exports.2 in
      let funs = bind_ok (table_of fun_shape funs_id names (payload_of funs_id chunks)) (λ funs. after_funs chunks imports.0 funs) t locals.2 in
      let literals = bind_ok (literals_in (payload_of literals_id chunks)) (λ literals. tables_with imports.0 funs.0 literals) t funs.2 in
      let made : TablesRead = record { imports = imports.0; funs = funs.0; literals = literals.0 } in
      subst (λ (s : TablesRead). AreTables chunks names s) (ok_is {E = ModuleRefusal} made t literals.2) (record {
        imports = table_takes import_shape names (SpellsImports names) (imports_exact names) imports_id chunks fits (payload_of imports_id chunks) refl imports.0 imports.1;
        exports = exports.0;
        exports_are = table_takes export_shape names (SpellsExports names) (exports_exact names) exports_id chunks fits (payload_of exports_id chunks) refl exports.0 exports.1;
        locals = locals.0;
        locals_are = table_takes export_shape names (SpellsExports names) (exports_exact names) locals_id chunks fits (payload_of locals_id chunks) refl locals.0 locals.1;
        funs = table_takes fun_shape names (SpellsFuns names) (funs_exact names) funs_id chunks fits (payload_of funs_id chunks) refl funs.0 funs.1;
        literals = literals_take literals_exact chunks fits (payload_of literals_id chunks) refl literals.0 literals.1;
      })

  tables_again : (chunks : List PlainChunk) (names : List (List ℕ)) (t : TablesRead) → HasBytes chunks → AreTables chunks names t → tables_in chunks names ≡ Ok t
  unfolding tables_in
  tables_again chunks names t fits are =
      let imports = table_again import_shape names (SpellsImports names) (imports_exact names) imports_id chunks fits (payload_of imports_id chunks) refl t.imports are.imports in
      let exports = table_again export_shape names (SpellsExports names) (exports_exact names) exports_id chunks fits (payload_of exports_id chunks) refl are.exports are.exports_are in
      let locals = table_again export_shape names (SpellsExports names) (exports_exact names) locals_id chunks fits (payload_of locals_id chunks) refl are.locals are.locals_are in
      let funs = table_again fun_shape names (SpellsFuns names) (funs_exact names) funs_id chunks fits (payload_of funs_id chunks) refl t.funs are.funs in
      let literals = literals_again literals_exact chunks fits (payload_of literals_id chunks) refl t.literals are.literals in
      bind_at_ok (table_of import_shape imports_id names (payload_of imports_id chunks)) (λ imports. after_imports chunks names imports) t.imports imports
      ∙ bind_at_ok (table_of export_shape exports_id names (payload_of exports_id chunks)) (λ _. after_exports chunks names t.imports) are.exports exports
      ∙ bind_at_ok (table_of export_shape locals_id names (payload_of locals_id chunks)) (λ _. after_locals chunks names t.imports) are.locals locals
      ∙ bind_at_ok (table_of fun_shape funs_id names (payload_of funs_id chunks)) (λ funs. after_funs chunks t.imports funs) t.funs funs
      ∙ bind_at_ok (literals_in (payload_of literals_id chunks)) (λ literals. tables_with t.imports t.funs literals) t.literals literals

  chunks_take : (bytes : List ℕ) (chunks : List PlainChunk) (m : ModuleValue) → IsForm chunks bytes → HasBytes chunks → module_in chunks ≡ Ok m → IsModule m bytes
  unfolding module_in
  chunks_take bytes chunks m form fits h =
      let atoms = bind_ok (or_missing atoms_id (payload_of atoms_id chunks)) (λ atoms. after_atoms chunks atoms) m h in
      let payload = bind_ok (or_missing code_id (payload_of code_id chunks)) (λ payload. after_payloads chunks atoms.0 payload) m atoms.2 in
      let found = bind_ok (refused_as atom_refusal (all_atoms atoms.0)) (λ found. after_found chunks payload.0 found) m payload.2 in
      let names = bind_ok (or_unnamed found.0) (λ names. after_names chunks payload.0 names) m found.2 in
      let code = bind_ok (refused_as refusals.Code (code_at payload.0)) (λ code. after_code chunks names.0 code) m names.2 in
      let tables = bind_ok (tables_in chunks names.0) (λ tables. after_tables chunks names.0 code.0 tables) m code.2 in
      let split = bind_ok (refused_as split_refusal (split_of code.0.labels code.0.functions code.0.instrs)) (λ split. module_with chunks names.0 tables.0 split) m tables.2 in
      let made : ModuleValue = record { form = chunks; atoms = names.0; code = split.0; imports = tables.0.imports; funs = tables.0.funs; literals = tables.0.literals } in
      let has_atoms = missing_ok atoms_id (payload_of atoms_id chunks) atoms.0 atoms.1 in
      let has_code = missing_ok code_id (payload_of code_id chunks) payload.0 payload.1 in
      let named = unnamed_ok found.0 names.0 names.1 in
      let read = refused_as_ok atom_refusal (all_atoms atoms.0) found.0 found.1 ∙ ap (λ (ns : List (List ℕ)). Ok ns) named.0 in
      let are = tables_take chunks names.0 tables.0 fits tables.1 in
      subst (λ (n : ModuleValue). IsModule n bytes) {x = made} (ok_is {E = ModuleRefusal} made m split.2) (record {
        form = form;
        atoms = record { payload = atoms.0; found = has_atoms; spelled = (atoms_exact.accepted atoms.0 names.0 (payload_at_fits atoms_id chunks atoms.0 fits has_atoms)).0 read };
        named = named.1;
        payload = payload.0;
        has_code = has_code;
        code = code.0;
        code_is = (codes_exact.accepted payload.0 code.0 (payload_at_fits code_id chunks payload.0 fits has_code)).0 (refused_as_ok refusals.Code (code_at payload.0) code.0 code.1);
        functions = (splits_exact code.0 split.0).0 (refused_as_ok split_refusal (split_of code.0.labels code.0.functions code.0.instrs) split.0 split.1);
        imports = are.imports;
        exports = are.exports;
        exports_are = are.exports_are;
        locals = are.locals;
        locals_are = are.locals_are;
        funs = are.funs;
        literals = are.literals.literals;
        literals_are = are.literals.are;
        count = are.literals.count_is;
      })

  chunks_again : (bytes : List ℕ) (m : ModuleValue) → HasBytes m.form → IsModule m bytes → module_in m.form ≡ Ok m
  unfolding module_in
  chunks_again bytes m fits is =
      let chunks = m.form in
      let atoms = (atoms_exact.accepted is.atoms.payload m.atoms (payload_at_fits atoms_id chunks is.atoms.payload fits is.atoms.found)).1 is.atoms.spelled in
      let code = (codes_exact.accepted is.payload is.code (payload_at_fits code_id chunks is.payload fits is.has_code)).1 is.code_is in
      let t : TablesRead = record { imports = m.imports; funs = m.funs; literals = m.literals } in
      let tables = tables_again chunks m.atoms t fits (record {
        imports = is.imports;
        exports = is.exports;
        exports_are = is.exports_are;
        locals = is.locals;
        locals_are = is.locals_are;
        funs = is.funs;
        literals = record { literals = is.literals; are = is.literals_are; count_is = is.count };
      }) in
      let split = (splits_exact is.code m.code).1 is.functions in
      bind_at_ok (or_missing atoms_id (payload_of atoms_id chunks)) (λ atoms. after_atoms chunks atoms) is.atoms.payload (ap (or_missing atoms_id) is.atoms.found)
      ∙ bind_at_ok (or_missing code_id (payload_of code_id chunks)) (λ payload. after_payloads chunks is.atoms.payload payload) is.payload (ap (or_missing code_id) is.has_code)
      ∙ bind_at_ok (refused_as atom_refusal (all_atoms is.atoms.payload)) (λ found. after_found chunks is.payload found) m.atoms (ap (refused_as atom_refusal) atoms)
      ∙ bind_at_ok (or_unnamed m.atoms) (λ names. after_names chunks is.payload names) m.atoms (unnamed_again m.atoms is.named)
      ∙ bind_at_ok (refused_as refusals.Code (code_at is.payload)) (λ code. after_code chunks m.atoms code) is.code (ap (refused_as refusals.Code) code)
      ∙ bind_at_ok (tables_in chunks m.atoms) (λ tables. after_tables chunks m.atoms is.code tables) t tables
      ∙ bind_at_ok (refused_as split_refusal (split_of is.code.labels is.code.functions is.code.instrs)) (λ split. module_with chunks m.atoms t split) m.code (ap (refused_as split_refusal) split)

  module_takes : (bytes : List ℕ) (m : ModuleValue) → IsBytes bytes → module_of bytes ≡ Ok m → IsModule m bytes
  module_takes bytes m fits h =
      let form = bind_ok (form_or bytes) (λ chunks. module_in chunks) m h in
      let is = (forms_exact.accepted bytes form.0 fits).0 (refused_as_ok refusals.Form (form_of bytes) form.0 form.1) in
      chunks_take bytes form.0 m is (payloads_fit form.0 bytes is fits) form.2

  module_again : (bytes : List ℕ) (m : ModuleValue) → IsBytes bytes → IsModule m bytes → module_of bytes ≡ Ok m
  module_again bytes m fits is =
      let form = (forms_exact.accepted bytes m.form fits).1 is.form in
      bind_at_ok (form_or bytes) (λ chunks. module_in chunks) m.form (ap (refused_as refusals.Form) form)
      ∙ chunks_again bytes m (payloads_fit m.form bytes is.form fits) is

  pub module_is_exact : IsExact module_of IsModule
  module_is_exact = exact_on_bytes module_takes module_again
