-- Bytes are one module.
use Rattle.std.proofs.Common.{◌≡◌, ℕ, List, [], ◌++◌, refl, sym, ap, subst, ◌∙◌}
use Rattle.std.specs.Prelude.{Option, Some, None}
use Rattle.bk_codec.specs.Refusal.{IsDecided}
use Rattle.iff_form.specs.declared.id.Id.{Id}
use Rattle.iff_form.specs.Chunk.{PlainChunk}
use Rattle.iff_form.specs.Form.{IsForm, payload_of}
use Rattle.code_chunk.specs.declared.code.CodeVal.{CodeVal}
use Rattle.code_chunk.specs.Spelling.{SpellsCode}
use Rattle.func_split.specs.Functions.{IsSplit, IsSplitCode, Piece, SplitValue}
use Rattle.index_tables.specs.declared.entry.Fun.{Fun}
use Rattle.index_tables.specs.declared.entry.Import.{Import}
use Rattle.index_tables.specs.Atoms.{SpellsAtoms}
use Rattle.index_tables.specs.Entries.{SpellsFuns, SpellsImports}
use Rattle.index_tables.specs.Refusal.{RefusesAtoms, RefusesFuns, RefusesImports}
use Rattle.side_tables.specs.declared.literals.Literals.{Literals}
use Rattle.side_tables.specs.declared.literals.Literals.TheVariants.{Plain}
use Rattle.side_tables.specs.LiteralCount.{literal_count}
use Rattle.side_tables.specs.LiteralSpelling.{SpellsLiterals}
use Rattle.beam_module.specs.File.{code_id}
use Rattle.beam_module.specs.Module.{IsModule, IsTable, ModuleValue, funs_id, imports_id, literals_id}
use Rattle.beam_module.specs.Name.{atoms_id}

-- the payloads at one id of one list of chunks
same_payload : (id : Id) (chunks others : List PlainChunk) (p q : List ℕ) → chunks ≡ others → payload_of id chunks ≡ Some p → payload_of id others ≡ Some q → p ≡ q
same_payload id chunks others p q e first second =
    let both : payload_of id others ≡ Some p = subst (λ (cs : List PlainChunk). payload_of id cs ≡ Some p) e first in
    cc

-- a payload, or a missing chunk, has one table
one_table : {A : Type 0} (Spelled : A → List ℕ → Type 0) (empty : A) → ((bytes : List ℕ) (x y : A) → Spelled x bytes → Spelled y bytes → x ≡ y)
    → (found : Option (List ℕ)) (x y : A) → IsTable Spelled empty x found → IsTable Spelled empty y found → x ≡ y
one_table Spelled empty one (Some payload) x y first second = one payload x y first second
one_table Spelled empty one None x y first second = first ∙ sym second

-- two modules that agree in each part
same_split : (s t : SplitValue) → s.instrs ≡ t.instrs → s.labels ≡ t.labels → s.functions ≡ t.functions → s ≡ t
same_split s t instrs labels functions =
    ap (λ (i : List _). record { instrs = i; labels = s.labels; functions = s.functions }) instrs
    ∙ ap (λ (n : ℕ). record { instrs = t.instrs; labels = n; functions = s.functions }) labels
    ∙ ap (λ (f : List Piece). record { instrs = t.instrs; labels = t.labels; functions = f }) functions

same_module : (m n : ModuleValue) → m.form ≡ n.form → m.atoms ≡ n.atoms → m.code ≡ n.code → m.imports ≡ n.imports → m.funs ≡ n.funs → m.literals ≡ n.literals → m ≡ n
same_module m n form atoms code imports funs literals =
    ap (λ (x : List PlainChunk). record { form = x; atoms = m.atoms; code = m.code; imports = m.imports; funs = m.funs; literals = m.literals }) form
    ∙ ap (λ (x : List (List ℕ)). record { form = n.form; atoms = x; code = m.code; imports = m.imports; funs = m.funs; literals = m.literals }) atoms
    ∙ ap (λ (x : SplitValue). record { form = n.form; atoms = n.atoms; code = x; imports = m.imports; funs = m.funs; literals = m.literals }) code
    ∙ ap (λ (x : List Import). record { form = n.form; atoms = n.atoms; code = n.code; imports = x; funs = m.funs; literals = m.literals }) imports
    ∙ ap (λ (x : List Fun). record { form = n.form; atoms = n.atoms; code = n.code; imports = n.imports; funs = x; literals = m.literals }) funs
    ∙ ap (λ (x : Option ℕ). record { form = n.form; atoms = n.atoms; code = n.code; imports = n.imports; funs = n.funs; literals = x }) literals

module _ (one_form : (a b x y : List ℕ) (chunks others : List PlainChunk) → IsForm chunks a → IsForm others b → a ++ x ≡ b ++ y → (a ≡ b) × (chunks ≡ others))
    (one_code : (payload : List ℕ) (c d : CodeVal) → SpellsCode c payload → SpellsCode d payload → c ≡ d)
    (one_split : (code : CodeVal) (f g : List Piece) → IsSplit code.labels code.instrs f → IsSplit code.labels code.instrs g → f ≡ g)
    (atoms_decided : IsDecided SpellsAtoms RefusesAtoms)
    (imports_decided : (names : List (List ℕ)) → IsDecided (SpellsImports names) (RefusesImports names))
    (funs_decided : (names : List (List ℕ)) → IsDecided (SpellsFuns names) (RefusesFuns names))
    (one_literals : (bytes : List ℕ) (l k : Literals) → SpellsLiterals l bytes → SpellsLiterals k bytes → l ≡ k) where
  one_code_split : (code : CodeVal) (s t : SplitValue) → IsSplitCode code.labels code.functions code.instrs s → IsSplitCode code.labels code.functions code.instrs t → s ≡ t
  one_code_split code s t first second =
      same_split s t (first.instrs_are ∙ sym second.instrs_are) (first.labels_are ∙ sym second.labels_are) (one_split code s.functions t.functions first.split second.split)

  pub one_module_lem : (bytes : List ℕ) (m n : ModuleValue) → IsModule m bytes → IsModule n bytes → m ≡ n
  one_module_lem bytes m n first second =
      let form : m.form ≡ n.form = (one_form bytes bytes [] [] m.form n.form first.form second.form refl).1 in
      let names_at : first.atoms.payload ≡ second.atoms.payload = same_payload atoms_id m.form n.form first.atoms.payload second.atoms.payload form first.atoms.found second.atoms.found in
      let atoms : m.atoms ≡ n.atoms =
      atoms_decided.one_value second.atoms.payload m.atoms n.atoms (subst (λ (p : List ℕ). SpellsAtoms m.atoms p) names_at first.atoms.spelled) second.atoms.spelled in
      let code_at : first.payload ≡ second.payload = same_payload code_id m.form n.form first.payload second.payload form first.has_code second.has_code in
      let code : first.code ≡ second.code =
      one_code second.payload first.code second.code (subst (λ (p : List ℕ). SpellsCode first.code p) code_at first.code_is) second.code_is in
      let split : m.code ≡ n.code =
      one_code_split second.code m.code n.code
      (subst (λ (c : CodeVal). IsSplitCode c.labels c.functions c.instrs m.code) code first.functions) second.functions in
      let imports : m.imports ≡ n.imports =
      one_table (SpellsImports n.atoms) [] (imports_decided n.atoms).one_value (payload_of imports_id n.form) m.imports n.imports
      (subst (λ (cs : List PlainChunk). IsTable (SpellsImports n.atoms) [] m.imports (payload_of imports_id cs)) form
      (subst (λ (ns : List (List ℕ)). IsTable (SpellsImports ns) [] m.imports (payload_of imports_id m.form)) atoms first.imports)) second.imports in
      let funs : m.funs ≡ n.funs =
      one_table (SpellsFuns n.atoms) [] (funs_decided n.atoms).one_value (payload_of funs_id n.form) m.funs n.funs
      (subst (λ (cs : List PlainChunk). IsTable (SpellsFuns n.atoms) [] m.funs (payload_of funs_id cs)) form
      (subst (λ (ns : List (List ℕ)). IsTable (SpellsFuns ns) [] m.funs (payload_of funs_id m.form)) atoms first.funs)) second.funs in
      let literals : first.literals ≡ second.literals =
      one_table SpellsLiterals (Plain []) one_literals (payload_of literals_id n.form) first.literals second.literals
      (subst (λ (cs : List PlainChunk). IsTable SpellsLiterals (Plain []) first.literals (payload_of literals_id cs)) form first.literals_are) second.literals_are in
      same_module m n form atoms split imports funs (first.count ∙ ap literal_count literals ∙ sym second.count)
