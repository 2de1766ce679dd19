-- What a command prints is what the grammars say that it prints.
use Rattle.std.proofs.Common.{◌≡◌, ◌⊎◌, ℕ, List, ◌++◌, codes, Option, Some, None, Result, Ok, Err, refl, sym, ap, subst, ◌∙◌, inl, inr}
use Rattle.std.specs.Prelude.{◌↔◌}
use Rattle.std.specs.List.{AllByRecursion}
use Rattle.bk_codec.specs.Exact.{IsExact}
use Rattle.bk_codec.specs.Reading.{◌>>=◌, refused_as}
use Rattle.bk_codec.specs.Spelling.{IsBytes}
use Rattle.bk_codec.proofs.Exact.{exact_on_bytes}
use Rattle.bk_codec.proofs.Steps.{bind_ok, ok_is, refused_as_ok}
use Rattle.iff_form.specs.declared.id.Id.{Id}
use Rattle.iff_form.proofs.Payloads.{payload_at_fits}
use Rattle.iff_form.specs.Chunk.{PlainChunk}
use Rattle.iff_form.specs.Form.{AreDistinct, IsForm, payload_of}
use Rattle.iff_form.specs.Reading.{form_of}
use Rattle.iff_form.specs.Text.{info_of}
use Rattle.index_tables.specs.Atoms.{SpellsAtoms}
use Rattle.index_tables.specs.Entries.{SpellsImports, SpellsExports, SpellsFuns}
use Rattle.index_tables.specs.Reading.{all_atoms, all_entries}
use Rattle.index_tables.specs.Shape.{Shape, import_shape, export_shape, fun_shape}
use Rattle.index_tables.specs.Text.{atoms_text, imports_text, exports_text, funs_text}
use Rattle.side_tables.specs.LineReading.{lines_of}
use Rattle.side_tables.specs.LineSpelling.{SpellsLines}
use Rattle.side_tables.specs.LineText.{lines_text}
use Rattle.side_tables.specs.LiteralReading.{literals_of}
use Rattle.side_tables.specs.LiteralSpelling.{SpellsLiterals}
use Rattle.side_tables.specs.LiteralText.{literals_text}
use Rattle.ext_term.specs.Reading.{term_of}
use Rattle.ext_term.specs.Spelling.{SpellsTermFile}
use Rattle.ext_term.specs.Text.{term_text}
use Rattle.beam_module.specs.declared.comparison.Compared.{Compared}
use Rattle.beam_module.specs.Canonical.{canonical_file}
use Rattle.beam_module.specs.Comparison.{Compares, comparison}
use Rattle.beam_module.specs.File.{FileChunk, IsFile}
use Rattle.beam_module.specs.Module.{IsModule, ModuleValue}
use Rattle.beam_module.specs.Name.{IsModuleName, name_of}
use Rattle.beam_module.specs.Opening.{module_of}
use Rattle.beam_module.specs.Strip.{stripped_file}
use Rattle.beam_module.specs.Reading.{file_of}
use Rattle.listing_out.specs.Comments.{commented_listing}
use Rattle.listing_out.specs.Listable.{IsListable}
use Rattle.listing_out.specs.Listing.{IsListing}
use Rattle.listing_in.specs.Reading.{listing_value}
use Rattle.code_faults.specs.declared.fault.Fault.{Fault}
use Rattle.flow_rules.specs.Reporting.{IsReport}
use Rattle.flow_rules.specs.Reports.{report_of}
use Rattle.beam_cli.specs.declared.refusal.Refusal.{Refusal}
use Rattle.beam_cli.specs.declared.refusal.Refusal.TheVariants.{Form, Table, Side, Term as TermRefused}
use Rattle.beam_cli.specs.declared.shown.Shown.{Shown}
use Rattle.beam_cli.specs.declared.shown.Shown.TheVariants as shown
use Rattle.beam_cli.specs.Reasons.{listing_refusal, module_refusal}
use Rattle.beam_cli.specs.Needs.{chunks_of, found_or, part_at, payload_at}
use Rattle.beam_cli.specs.Showing.{table_lines, id_of, shown_text, show_output}
use Rattle.beam_cli.specs.Answer.{asm_output, canon_output, disasm_output, info_output, strip_output}
use Rattle.beam_cli.specs.Comparing.{NamedForm, cmp_output, compared, comparison_of, name_at, named_form}
use Rattle.beam_cli.specs.Files.{NamedFile}
use Rattle.beam_cli.specs.Made.{NamedRefusal, read_of}
use Rattle.beam_cli.specs.Printing.{HasChunk, HasNamedForm, IsExactOnTwo, IsNamedForm, PrintsAssembled, PrintsCanonical, PrintsDifference, PrintsInfo, PrintsListing, PrintsReport, PrintsStripped, PrintsTable, ShowsEntries, ShowsPart, ShowsTable}
use Rattle.beam_cli.specs.Validating.{judged, validate_output}

-- ---- an answer is a value exactly where something holds of it

record Same {A : Type 0} (answer : Result A Refusal) (P : A → Type 0) : Type 0 where
  found : (x : A) → answer ≡ Ok x → P x
  again : (x : A) → P x → answer ≡ Ok x

same_read : {A E : Type 0} {read : List ℕ → Result A E} {R : A → List ℕ → Type 0} (why : E → Refusal) → IsExact read R → (bytes : List ℕ) → IsBytes bytes → Same (refused_as why (read bytes)) (λ x. R x bytes)
same_read {read = read} why exact bytes fits = record {
  found = λ x h. (exact.accepted bytes x fits).0 (refused_as_ok why (read bytes) x h);
  again = λ x is. let h : read bytes ≡ Ok x = (exact.accepted bytes x fits).1 is in rw h refl;
}

same_then : {A B : Type 0} {r : Result A Refusal} {P : A → Type 0} {f : A → Result B Refusal} {Q : A → B → Type 0}
    → Same r P → ((x : A) → P x → Same (f x) (Q x)) → Same (r >>= f) (λ y. (x : A) × P x × Q x y)
same_then {r = r} {f = f} first second = record {
  found = λ y h.
      let b = bind_ok r f y h in
      let is = first.found b.0 b.1 in
      (b.0, is, (second b.0 is).found y b.2);
  again = λ y is. let h : r ≡ Ok is.0 = first.again is.0 is.1 in rw h ((second is.0 is.1).again y is.2);
}

same_made : {A B : Type 0} (print : A → B) (x : A) → Same (Ok (print x)) (λ y. y ≡ print x)
same_made print x = record {
  found = λ y h. sym (ok_is {E = Refusal} (print x) y h);
  again = λ y is. rw is refl;
}

-- ---- the payload of a chunk

found_ok : (id : Id) (held : Option (List ℕ)) (payload : List ℕ) → found_or id held ≡ Ok payload → held ≡ Some payload
found_ok id (Some bytes) payload h = ap (λ (b : List ℕ). Some b) (ok_is {E = Refusal} bytes payload h)
found_ok id None payload h = absurd cc

same_part : {A E : Type 0} {read : List ℕ → Result A E} {R : A → List ℕ → Type 0} (why : E → Refusal) (id : List ℕ) → IsExact read R → (chunks : List PlainChunk) → AllByRecursion (λ c. IsBytes c.payload) chunks
    → Same (part_at why read (id_of id) chunks) (HasChunk id R chunks)
same_part {read = read} {R = R} why id exact chunks fits = record {
  found = λ x h.
      let b = bind_ok (payload_at (id_of id) chunks) (λ payload. refused_as why (read payload)) x h in
      let there = found_ok (id_of id) (payload_of (id_of id) chunks) b.0 b.1 in
      record { payload = b.0; found = there; spelled = (same_read why exact b.0 (payload_at_fits (id_of id) chunks b.0 fits there)).found x b.2 };
  again = λ x has.
      let read_is : refused_as why (read has.payload) ≡ Ok x = (same_read why exact has.payload (payload_at_fits (id_of id) chunks has.payload fits has.found)).again x has.spelled in
      rw (has.found, read_is) refl;
}

-- ---- tables

same_shown : {A E : Type 0} {read : List ℕ → Result A E} {R : A → List ℕ → Type 0} (why : E → Refusal) (id : List ℕ) → IsExact read R → (print : A → List ℕ) (chunks : List PlainChunk)
    → AllByRecursion (λ c. IsBytes c.payload) chunks → Same (part_at why read (id_of id) chunks >>= λ x. Ok (print x)) (ShowsPart id R print chunks)
same_shown why id exact print chunks fits = same_then (same_part why id exact chunks fits) (λ x has. same_made print x)

same_entries : {A : Type 0} (shape : Shape A) (R : List (List ℕ) → List A → List ℕ → Type 0) (id : List ℕ) → IsExact all_atoms SpellsAtoms → ((names : List (List ℕ)) → IsExact (all_entries shape names) (R names))
    → (print : List (List ℕ) → List A → List ℕ) (chunks : List PlainChunk) → AllByRecursion (λ c. IsBytes c.payload) chunks → Same (table_lines shape print (id_of id) chunks) (ShowsEntries id R print chunks)
same_entries shape R id atoms entries print chunks fits =
    same_then (same_part (Table (id_of (codes "AtU8"))) (codes "AtU8") atoms chunks fits) (λ names has. same_shown (Table (id_of id)) id (entries names) (print names) chunks fits)

module _ (atoms : IsExact all_atoms SpellsAtoms)
    (imports : (names : List (List ℕ)) → IsExact (all_entries import_shape names) (SpellsImports names))
    (exports : (names : List (List ℕ)) → IsExact (all_entries export_shape names) (SpellsExports names))
    (funs : (names : List (List ℕ)) → IsExact (all_entries fun_shape names) (SpellsFuns names))
    (lines : IsExact lines_of SpellsLines) (literals : IsExact literals_of SpellsLiterals) (terms : IsExact term_of SpellsTermFile) where
  same_table : (what : Shown) (chunks : List PlainChunk) → AllByRecursion (λ c. IsBytes c.payload) chunks → Same (shown_text what chunks) (ShowsTable what chunks)
  unfolding shown_text ShowsTable
  same_table shown.Atoms chunks fits = same_shown (Table (id_of (codes "AtU8"))) (codes "AtU8") atoms atoms_text chunks fits
  same_table shown.Imports chunks fits = same_entries import_shape SpellsImports (codes "ImpT") atoms imports imports_text chunks fits
  same_table shown.Exports chunks fits = same_entries export_shape SpellsExports (codes "ExpT") atoms exports exports_text chunks fits
  same_table shown.Locals chunks fits = same_entries export_shape SpellsExports (codes "LocT") atoms exports exports_text chunks fits
  same_table shown.Funs chunks fits = same_entries fun_shape SpellsFuns (codes "FunT") atoms funs funs_text chunks fits
  same_table shown.Literals chunks fits = same_shown (Side (id_of (codes "LitT"))) (codes "LitT") literals literals_text chunks fits
  same_table shown.Lines chunks fits = same_shown (Side (id_of (codes "Line"))) (codes "Line") lines lines_text chunks fits
  same_table shown.Attributes chunks fits = same_shown (TermRefused (id_of (codes "Attr"))) (codes "Attr") terms (λ t. term_text t ++ codes "\n") chunks fits
  same_table shown.Compile chunks fits = same_shown (TermRefused (id_of (codes "CInf"))) (codes "CInf") terms (λ t. term_text t ++ codes "\n") chunks fits

  pub show_printed : IsExact form_of IsForm → ((chunks : List PlainChunk) (bytes : List ℕ) → IsForm chunks bytes → IsBytes bytes → AllByRecursion (λ c. IsBytes c.payload) chunks)
      → (what : Shown) → IsExact (show_output what) (PrintsTable what)
  show_printed forms payloads what =
      let same : (bytes : List ℕ) → IsBytes bytes → Same (show_output what bytes) (λ text. PrintsTable what text bytes) =
      λ bytes fits. same_then (same_read Form forms bytes fits) (λ chunks is. same_table what chunks (payloads chunks bytes is fits)) in
      exact_on_bytes (λ bytes text fits. (same bytes fits).found text) (λ bytes text fits. (same bytes fits).again text)

-- ---- forms and files

pub info_printed : IsExact form_of IsForm → IsExact info_output PrintsInfo
info_printed forms =
    let same : (bytes : List ℕ) → IsBytes bytes → Same (info_output bytes) (λ text. PrintsInfo text bytes) =
    λ bytes fits. same_then (same_read Form forms bytes fits) (λ chunks is. same_made info_of chunks) in
    exact_on_bytes (λ bytes text fits. (same bytes fits).found text) (λ bytes text fits. (same bytes fits).again text)

pub disasm_printed : IsExact file_of IsFile → IsExact disasm_output PrintsListing
disasm_printed files =
    let same : (bytes : List ℕ) → IsBytes bytes → Same (disasm_output bytes) (λ text. PrintsListing text bytes) =
    λ bytes fits. same_then (same_read module_refusal files bytes fits) (λ value is. same_made commented_listing value) in
    exact_on_bytes (λ bytes text fits. (same bytes fits).found text) (λ bytes text fits. (same bytes fits).again text)

pub strip_printed : IsExact form_of IsForm → IsExact strip_output PrintsStripped
strip_printed forms =
    let same : (bytes : List ℕ) → IsBytes bytes → Same (strip_output bytes) (λ text. PrintsStripped text bytes) =
    λ bytes fits. same_then (same_read Form forms bytes fits) (λ chunks is. same_made stripped_file chunks) in
    exact_on_bytes (λ bytes text fits. (same bytes fits).found text) (λ bytes text fits. (same bytes fits).again text)

pub canon_printed : IsExact file_of IsFile → IsExact canon_output PrintsCanonical
canon_printed files =
    let same : (bytes : List ℕ) → IsBytes bytes → Same (canon_output bytes) (λ text. PrintsCanonical text bytes) =
    λ bytes fits. same_then (same_read module_refusal files bytes fits) (λ value is. same_made canonical_file value) in
    exact_on_bytes (λ bytes text fits. (same bytes fits).found text) (λ bytes text fits. (same bytes fits).again text)

-- ---- reports

module _ (one : (m : ModuleValue) (a b : List Fault) → IsReport m a → IsReport m b → a ≡ b) (have : (m : ModuleValue) (bytes : List ℕ) → IsModule m bytes → IsReport m (report_of m)) where
  same_judged : (value : ModuleValue) (bytes : List ℕ) → IsModule value bytes → Same (Ok (judged value (report_of value))) (λ m. (report : List Fault) × IsReport value report × (m ≡ judged value report))
  same_judged value bytes is = record {
    found = λ m h. (report_of value, have value bytes is, (same_made (judged value) (report_of value)).found m h);
    again = λ m has. (same_made (judged value) (report_of value)).again m (has.2 ∙ ap (judged value) (one value has.0 (report_of value) has.1 (have value bytes is)));
  }

  pub validate_printed : IsExact module_of IsModule → IsExact validate_output PrintsReport
  validate_printed modules =
      let same : (bytes : List ℕ) → IsBytes bytes → Same (validate_output bytes) (λ m. PrintsReport m bytes) =
      λ bytes fits. same_then (same_read module_refusal modules bytes fits) (λ value is. same_judged value bytes is) in
      exact_on_bytes (λ bytes m fits. (same bytes fits).found m) (λ bytes m fits. (same bytes fits).again m)

-- a text is read as a listing exactly where it is one
module _ (listings : (text : List ℕ) (v : List FileChunk) → (listing_value text ≡ Ok v) ↔ (IsListable v × IsListing v text)) where
  same_listed : (text : List ℕ) → Same (refused_as listing_refusal (listing_value text)) (λ v. IsListable v × IsListing v text)
  same_listed text = record {
    found = λ v h. (listings text v).0 (refused_as_ok listing_refusal (listing_value text) v h);
    again = λ v is. let h : listing_value text ≡ Ok v = (listings text v).1 is in rw h refl;
  }

  pub asm_of_listing : (text : List ℕ) (v : List FileChunk) → IsListable v → IsListing v text → asm_output text ≡ Ok (canonical_file v)
  asm_of_listing text v able is = let h : listing_value text ≡ Ok v = (listings text v).1 (able, is) in rw h refl

  pub asm_printed : IsExact asm_output PrintsAssembled
  asm_printed =
      let same : (text : List ℕ) → Same (asm_output text) (λ file. (v : List FileChunk) × (IsListable v × IsListing v text) × (file ≡ canonical_file v)) =
      λ text. same_then (same_listed text) (λ v is. same_made canonical_file v) in
      exact_on_bytes (λ text file fits h. let is = (same text).found file h in (is.0, is.1.0, is.1.1, is.2)) (λ text file fits is. (same text).again file (is.0, (is.1, is.2), is.3))

pub disasm_of_file : IsExact file_of IsFile → (bytes : List ℕ) (v : List FileChunk) → IsBytes bytes → IsFile v bytes → disasm_output bytes ≡ Ok (commented_listing v)
disasm_of_file files bytes v fits is = let h : file_of bytes ≡ Ok v = (files.accepted bytes v fits).1 is in rw h refl

-- ---- two files

either : {A E : Type 0} (r : Result A E) → ((x : A) × (r ≡ Ok x)) ⊎ ((e : E) × (r ≡ Err e))
either (Ok x) = inl (x, refl)
either (Err e) = inr (e, refl)

module _ (forms : IsExact form_of IsForm)
    (payloads : (chunks : List PlainChunk) (bytes : List ℕ) → IsForm chunks bytes → IsBytes bytes → AllByRecursion (λ c. IsBytes c.payload) chunks)
    (names : (chunks : List PlainChunk) (name : List ℕ) → AllByRecursion (λ c. IsBytes c.payload) chunks → (name_of chunks ≡ Ok name) ↔ IsModuleName name chunks) where
  same_named : (bytes : List ℕ) → IsBytes bytes → Same (named_form bytes) (λ f. IsNamedForm f bytes)
  same_named bytes fits = record {
    found = λ f h.
        let c = bind_ok (chunks_of bytes) (λ chunks. name_at chunks >>= λ name. Ok (record { chunks = chunks; name = name })) f h in
        let form = (same_read Form forms bytes fits).found c.0 c.1 in
        let n = bind_ok (name_at c.0) (λ name. Ok (record { chunks = c.0; name = name })) f c.2 in
        let name = (names c.0 n.0 (payloads c.0 bytes form fits)).0 (refused_as_ok module_refusal (name_of c.0) n.0 n.1) in
        subst (λ (g : NamedForm). IsNamedForm g bytes) (ok_is {E = Refusal} (record { chunks = c.0; name = n.0 }) f n.2) (record { form = form; name = name });
    again = λ f is.
        let chunks : chunks_of bytes ≡ Ok f.chunks = (same_read Form forms bytes fits).again f.chunks is.form in
        let name : name_of f.chunks ≡ Ok f.name = (names f.chunks f.name (payloads f.chunks bytes is.form fits)).1 is.name in
        rw (chunks, name) refl;
  }

  not_named : (bytes : List ℕ) → IsBytes bytes → (HasNamedForm bytes → ⊥) → (e : Refusal) × (named_form bytes ≡ Err e)
  not_named bytes fits none =
      elim (either (named_form bytes)) [
        | inl some ↦ absurd (none (some.0, (same_named bytes fits).found some.0 some.1))
        | inr refused ↦ refused
      ]

  module _ (tells : (a b : List PlainChunk) (a_name b_name : List ℕ) → AreDistinct a → AreDistinct b → Compares a a_name b b_name (comparison a a_name b b_name))
      (one : (a b : List PlainChunk) (a_name b_name : List ℕ) (x y : Compared) → Compares a a_name b b_name x → Compares a a_name b b_name y → x ≡ y) where
    -- what is made of two files with names
    made_of_two : (f g : NamedFile) (a b : NamedForm) → named_form f.bytes ≡ Ok a → named_form g.bytes ≡ Ok b → cmp_output f g ≡ Ok (compared (comparison_of a b))
    made_of_two f g a b first second = rw (first, second) refl

    tells_of : (a b : NamedForm) (first second : List ℕ) → IsNamedForm a first → IsNamedForm b second → Compares a.chunks a.name b.chunks b.name (comparison_of a b)
    tells_of a b first second is also = tells a.chunks b.chunks a.name b.name is.form.distinct also.form.distinct

    pub cmp_printed : IsExactOnTwo cmp_output HasNamedForm PrintsDifference
    cmp_printed = record {
      accepted = λ f g m fits also. (
        λ h.
            let x = bind_ok (read_of f (named_form f.bytes)) (λ a. read_of g (named_form g.bytes) >>= λ b. Ok (compared (comparison_of a b))) m h in
            let y = bind_ok (read_of g (named_form g.bytes)) (λ b. Ok (compared (comparison_of x.0 b))) m x.2 in
            let a_is = (same_named f.bytes fits).found x.0 (refused_as_ok (λ e. record { name = f.name; refusal = e }) (named_form f.bytes) x.0 x.1) in
            let b_is = (same_named g.bytes also).found y.0 (refused_as_ok (λ e. record { name = g.name; refusal = e }) (named_form g.bytes) y.0 y.1) in
            record {
              a = x.0;
              b = y.0;
              what = comparison_of x.0 y.0;
              first_is = a_is;
              second_is = b_is;
              differs = tells_of x.0 y.0 f.bytes g.bytes a_is b_is;
              is = sym (ok_is {E = NamedRefusal} (compared (comparison_of x.0 y.0)) m y.2);
            },
        λ p.
            let same : comparison_of p.a p.b ≡ p.what =
            one p.a.chunks p.b.chunks p.a.name p.b.name (comparison_of p.a p.b) p.what (tells_of p.a p.b f.bytes g.bytes p.first_is p.second_is) p.differs in
            made_of_two f g p.a p.b ((same_named f.bytes fits).again p.a p.first_is) ((same_named g.bytes also).again p.b p.second_is) ∙ rw (same, p.is) refl,
      );
      answered = λ f g fits also a b.
          (compared (comparison_of a.0 b.0), made_of_two f g a.0 b.0 ((same_named f.bytes fits).again a.0 a.1) ((same_named g.bytes also).again b.0 b.1));
      first = λ f g fits none. let e = not_named f.bytes fits none in (e.0, rw e.1 refl);
      second = λ f g fits also a none.
          let e = not_named g.bytes also none in
          let first : named_form f.bytes ≡ Ok a.0 = (same_named f.bytes fits).again a.0 a.1 in
          (e.0, rw (first, e.1) refl);
    }
