-- The output of `cmp`: what differs between the modules of two files.
use Rattle.std.specs.Prelude.{ℕ, Bool, true, false, List, ◌++◌, codes, Result, Ok}
use Rattle.bk_codec.specs.Reading.{◌>>=◌, refused_as}
use Rattle.iff_form.specs.Chunk.{PlainChunk}
use Rattle.iff_form.specs.Text.{id_text}
use Rattle.beam_module.specs.declared.comparison.Compared.{Compared}
use Rattle.beam_module.specs.declared.comparison.Compared.TheVariants.{Same, Modules, Ids, Chunk}
use Rattle.beam_module.specs.Comparison.{comparison}
use Rattle.beam_module.specs.Name.{name_of}
use Rattle.beam_cli.specs.declared.comparing.KeptForm.{KeptForm}
use Rattle.beam_cli.specs.declared.refusal.Refusal.{Refusal}
use Rattle.beam_cli.specs.Files.{NamedFile}
use Rattle.beam_cli.specs.Made.{Made, NamedRefusal, read_of}
use Rattle.beam_cli.specs.Needs.{chunks_of}
use Rattle.beam_cli.specs.Reasons.{module_refusal}

-- what differs, in words
abbrev pub difference : Compared → List ℕ
difference Same = codes "same"
difference Modules = codes "different module names"
difference (Ids id) = codes "different ids: " ++ id_text id
difference (Chunk id) = codes "different chunk: " ++ id_text id

-- whether anything differs
abbrev pub differs : Compared → Bool
differs Same = false
differs c = true

abbrev pub compared : Compared → Made
compared c = record { text = difference c ++ codes "\n"; found = differs c }

-- the form of a file, and the name of its module
pub record NamedForm : Type 0 where
  pub chunks : List PlainChunk
  pub name : List ℕ

abbrev pub plain_form : KeptForm → NamedForm
plain_form f = record { chunks = f.form; name = f.name }

abbrev pub name_at : List PlainChunk → Result (List ℕ) Refusal
name_at chunks = refused_as module_refusal (name_of chunks)

abbrev pub named_form : List ℕ → Result NamedForm Refusal
named_form bytes = chunks_of bytes >>= λ chunks. name_at chunks >>= λ name. Ok (record { chunks = chunks; name = name })

abbrev pub comparison_of : NamedForm → NamedForm → Compared
comparison_of a b = comparison a.chunks a.name b.chunks b.name

-- the first file comes before the second
abbrev pub cmp_output : NamedFile → NamedFile → Result Made NamedRefusal
cmp_output first second =
    read_of first (named_form first.bytes) >>= λ a. read_of second (named_form second.bytes) >>= λ b. Ok (compared (comparison_of a b))
