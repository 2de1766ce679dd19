-- What a command prints of a file, by the grammars alone, with no word of how a file is read.
use Rattle.std.specs.Prelude.{◌≡◌, ◌↔◌, ℕ, List, ◌++◌, codes, Some, Result, Ok, Err}
use Rattle.bk_codec.specs.Spelling.{IsBytes}
use Rattle.iff_form.specs.Chunk.{PlainChunk}
use Rattle.iff_form.specs.Form.{IsForm, payload_of}
use Rattle.iff_form.specs.Text.{info_of}
use Rattle.index_tables.specs.Atoms.{SpellsAtoms}
use Rattle.index_tables.specs.Entries.{SpellsImports, SpellsExports, SpellsFuns}
use Rattle.index_tables.specs.Text.{atoms_text, imports_text, exports_text, funs_text}
use Rattle.side_tables.specs.LiteralSpelling.{SpellsLiterals}
use Rattle.side_tables.specs.LiteralText.{literals_text}
use Rattle.side_tables.specs.LineSpelling.{SpellsLines}
use Rattle.side_tables.specs.LineText.{lines_text}
use Rattle.ext_term.specs.Spelling.{SpellsTermFile}
use Rattle.ext_term.specs.Text.{term_text}
use Rattle.beam_module.specs.File.{FileChunk, IsFile}
use Rattle.beam_module.specs.Canonical.{canonical_file}
use Rattle.beam_module.specs.Module.{IsModule, ModuleValue}
use Rattle.beam_module.specs.Strip.{stripped_file}
use Rattle.beam_module.specs.Name.{IsModuleName}
use Rattle.beam_module.specs.Comparison.{Compares}
use Rattle.beam_module.specs.declared.comparison.Compared.{Compared}
use Rattle.listing_out.specs.Comments.{commented_listing}
use Rattle.listing_out.specs.Listable.{IsListable}
use Rattle.listing_out.specs.Listing.{IsListing}
use Rattle.code_faults.specs.declared.fault.Fault.{Fault}
use Rattle.flow_rules.specs.Reporting.{IsReport}
use Rattle.beam_cli.specs.declared.shown.Shown.{Shown}
use Rattle.beam_cli.specs.declared.shown.Shown.TheVariants as shown
use Rattle.beam_cli.specs.declared.refusal.Refusal.{Refusal}
use Rattle.beam_cli.specs.Files.{NamedFile}
use Rattle.beam_cli.specs.Made.{Made, NamedRefusal}
use Rattle.beam_cli.specs.Comparing.{NamedForm, compared}
use Rattle.beam_cli.specs.Showing.{id_of}
use Rattle.beam_cli.specs.Validating.{judged}

-- the chunk with this id is there, and its payload is spelled for the value
pub record HasChunk {A : Type 0} (id : List ℕ) (Spells : A → List ℕ → Type 0) (chunks : List PlainChunk) (x : A) : Type 0 where
  pub payload : List ℕ
  pub found : payload_of (id_of id) chunks ≡ Some payload
  pub spelled : Spells x payload

-- the text of the value that the chunk with this id has
abbrev pub ShowsPart : {A : Type 0} → List ℕ → (A → List ℕ → Type 0) → (A → List ℕ) → List PlainChunk → List ℕ → Type 0
ShowsPart {A} id Spells print chunks text = (x : A) × HasChunk id Spells chunks x × (text ≡ print x)

-- the text of the entries that the chunk with this id has over the atoms of the module
abbrev pub ShowsEntries : {A : Type 0} → List ℕ → (List (List ℕ) → List A → List ℕ → Type 0) → (List (List ℕ) → List A → List ℕ) → List PlainChunk → List ℕ → Type 0
ShowsEntries {A} id Spells print chunks text =
    (names : List (List ℕ)) × HasChunk (codes "AtU8") SpellsAtoms chunks names × ShowsPart id (Spells names) (print names) chunks text

-- the text of a term on a line
abbrev pub ShowsTerm : List ℕ → List PlainChunk → List ℕ → Type 0
ShowsTerm id = ShowsPart id SpellsTermFile (λ t. term_text t ++ codes "\n")

-- the text of one table of a form of these chunks
unfoldable pub ShowsTable : Shown → List PlainChunk → List ℕ → Type 0
ShowsTable shown.Atoms = ShowsPart (codes "AtU8") SpellsAtoms atoms_text
ShowsTable shown.Imports = ShowsEntries (codes "ImpT") SpellsImports imports_text
ShowsTable shown.Exports = ShowsEntries (codes "ExpT") SpellsExports exports_text
ShowsTable shown.Locals = ShowsEntries (codes "LocT") SpellsExports exports_text
ShowsTable shown.Funs = ShowsEntries (codes "FunT") SpellsFuns funs_text
ShowsTable shown.Literals = ShowsPart (codes "LitT") SpellsLiterals literals_text
ShowsTable shown.Lines = ShowsPart (codes "Line") SpellsLines lines_text
ShowsTable shown.Attributes = ShowsTerm (codes "Attr")
ShowsTable shown.Compile = ShowsTerm (codes "CInf")

-- `info` prints the text of the form that the file is
abbrev pub PrintsInfo : List ℕ → List ℕ → Type 0
PrintsInfo text bytes = (chunks : List PlainChunk) × IsForm chunks bytes × (text ≡ info_of chunks)

-- `show` prints the text of one table of the form that the file is
abbrev pub PrintsTable : Shown → List ℕ → List ℕ → Type 0
PrintsTable what text bytes = (chunks : List PlainChunk) × IsForm chunks bytes × ShowsTable what chunks text

-- `disasm` prints the listing of the file's value
abbrev pub PrintsListing : List ℕ → List ℕ → Type 0
PrintsListing text bytes = (value : List FileChunk) × IsFile value bytes × (text ≡ commented_listing value)

-- `asm` prints the canonical file of the value that the text lists
abbrev pub PrintsAssembled : List ℕ → List ℕ → Type 0
PrintsAssembled file text = (value : List FileChunk) × IsListable value × IsListing value text × (file ≡ canonical_file value)

-- `strip` prints the stripped file of the form that the file is
abbrev pub PrintsStripped : List ℕ → List ℕ → Type 0
PrintsStripped text bytes = (chunks : List PlainChunk) × IsForm chunks bytes × (text ≡ stripped_file chunks)

-- `canon` prints the canonical file of the file's value
abbrev pub PrintsCanonical : List ℕ → List ℕ → Type 0
PrintsCanonical text bytes = (value : List FileChunk) × IsFile value bytes × (text ≡ canonical_file value)

-- `validate` prints the report of the module that the file is, and finds something where the report has faults
abbrev pub PrintsReport : Made → List ℕ → Type 0
PrintsReport m bytes = (value : ModuleValue) × IsModule value bytes × ((report : List Fault) × IsReport value report × (m ≡ judged value report))

-- ---- two files

-- the file is a form, and its module has a name
pub record IsNamedForm (f : NamedForm) (bytes : List ℕ) : Type 0 where
  pub form : IsForm f.chunks bytes
  pub name : IsModuleName f.name f.chunks

abbrev pub HasNamedForm : List ℕ → Type 0
HasNamedForm bytes = (f : NamedForm) × IsNamedForm f bytes

-- `cmp` prints what differs between the modules of two files, and finds something where anything does
pub record PrintsDifference (m : Made) (first second : List ℕ) : Type 0 where
  pub a : NamedForm
  pub b : NamedForm
  pub what : Compared
  pub first_is : IsNamedForm a first
  pub second_is : IsNamedForm b second
  pub differs : Compares a.chunks a.name b.chunks b.name what
  pub is : m ≡ compared what

-- a command makes of two files exactly what the relation says; where a file is not what the command needs it refuses it, the first file before the second; and it makes something of all others
pub record IsExactOnTwo (output : NamedFile → NamedFile → Result Made NamedRefusal) (Needed : List ℕ → Type 0) (R : Made → List ℕ → List ℕ → Type 0) : Type 0 where
  pub accepted : (f g : NamedFile) (m : Made) → IsBytes f.bytes → IsBytes g.bytes → (output f g ≡ Ok m) ↔ R m f.bytes g.bytes
  pub answered : (f g : NamedFile) → IsBytes f.bytes → IsBytes g.bytes → Needed f.bytes → Needed g.bytes → (m : Made) × (output f g ≡ Ok m)
  pub first : (f g : NamedFile) → IsBytes f.bytes → (Needed f.bytes → ⊥) → (e : Refusal) × (output f g ≡ Err (record { name = f.name; refusal = e }))
  pub second : (f g : NamedFile) → IsBytes f.bytes → IsBytes g.bytes → Needed f.bytes → (Needed g.bytes → ⊥) → (e : Refusal) × (output f g ≡ Err (record { name = g.name; refusal = e }))
