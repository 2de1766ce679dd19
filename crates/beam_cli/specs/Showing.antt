-- The output of `show`: one table of the file, with the atoms that its entries name.
use Rattle.std.specs.Prelude.{ℕ, List, ◌++◌, codes, Result, Ok}
use Rattle.bk_codec.specs.Reading.{◌>>=◌}
use Rattle.iff_form.specs.declared.id.Id.{Id}
use Rattle.iff_form.specs.Chunk.{PlainChunk}
use Rattle.index_tables.specs.Reading.{all_atoms, all_entries}
use Rattle.index_tables.specs.Shape.{Shape, import_shape, export_shape, fun_shape}
use Rattle.index_tables.specs.Text.{atoms_text, imports_text, exports_text, funs_text}
use Rattle.side_tables.specs.LineReading.{lines_of}
use Rattle.side_tables.specs.LineText.{lines_text}
use Rattle.side_tables.specs.LiteralReading.{literals_of}
use Rattle.side_tables.specs.LiteralText.{literals_text}
use Rattle.ext_term.specs.Reading.{term_of}
use Rattle.ext_term.specs.Text.{term_text}
use Rattle.beam_cli.specs.declared.refusal.Refusal.{Refusal}
use Rattle.beam_cli.specs.declared.refusal.Refusal.TheVariants.{Table, Side, Term}
use Rattle.beam_cli.specs.declared.shown.Shown.{Shown}
use Rattle.beam_cli.specs.declared.shown.Shown.TheVariants.{Atoms, Imports, Exports, Locals, Funs, Literals, Lines, Attributes, Compile}
use Rattle.beam_cli.specs.Needs.{chunks_of, part_at}

abbrev pub id_of : List ℕ → Id
id_of bytes = record { 0 = bytes }

-- the atoms of the module
abbrev pub atoms_at : List PlainChunk → Result (List (List ℕ)) Refusal
atoms_at chunks = part_at (Table (id_of (codes "AtU8"))) all_atoms (id_of (codes "AtU8")) chunks

-- the atoms come first, and then the table of the chunk with this id
abbrev pub table_lines : {A : Type 0} → Shape A → (List (List ℕ) → List A → List ℕ) → Id → List PlainChunk → Result (List ℕ) Refusal
table_lines shape text id chunks =
    atoms_at chunks >>= λ names. part_at (Table id) (all_entries shape names) id chunks >>= λ entries. Ok (text names entries)

-- the term of the chunk with this id, on a line
abbrev pub term_line : Id → List PlainChunk → Result (List ℕ) Refusal
term_line id chunks = part_at (Term id) term_of id chunks >>= λ t. Ok (term_text t ++ codes "\n")

-- the literals
abbrev pub literal_lines : List PlainChunk → Result (List ℕ) Refusal
literal_lines chunks = part_at (Side (id_of (codes "LitT"))) literals_of (id_of (codes "LitT")) chunks >>= λ literals. Ok (literals_text literals)

-- the lines of the source
abbrev pub line_lines : List PlainChunk → Result (List ℕ) Refusal
line_lines chunks = part_at (Side (id_of (codes "Line"))) lines_of (id_of (codes "Line")) chunks >>= λ lines. Ok (lines_text lines)

unfoldable pub shown_text : Shown → List PlainChunk → Result (List ℕ) Refusal
shown_text Atoms chunks = atoms_at chunks >>= λ names. Ok (atoms_text names)
shown_text Imports chunks = table_lines import_shape imports_text (id_of (codes "ImpT")) chunks
shown_text Exports chunks = table_lines export_shape exports_text (id_of (codes "ExpT")) chunks
shown_text Locals chunks = table_lines export_shape exports_text (id_of (codes "LocT")) chunks
shown_text Funs chunks = table_lines fun_shape funs_text (id_of (codes "FunT")) chunks
shown_text Literals chunks = literal_lines chunks
shown_text Lines chunks = line_lines chunks
shown_text Attributes chunks = term_line (id_of (codes "Attr")) chunks
shown_text Compile chunks = term_line (id_of (codes "CInf")) chunks

abbrev pub show_output : Shown → List ℕ → Result (List ℕ) Refusal
show_output what bytes = chunks_of bytes >>= λ chunks. shown_text what chunks
