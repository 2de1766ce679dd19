-- The canonical file of a value: zeros as padding, and each operand of the code in its canonical spelling.
use Rattle.std.specs.Prelude.{◌≡◌, ℕ, ◌^◌, ◌<◌, Option, Some, None, List, [], ◌∷◌, map, All, length, ⊤}
use Rattle.std.specs.List.{AllByRecursion}
use Rattle.bk_codec.specs.Spelling.{IsBytes}
use Rattle.iff_form.specs.Chunk.{PlainChunk}
use Rattle.iff_form.specs.Form.{form_size}
use Rattle.iff_form.specs.Canonical.{canonical_form}
use Rattle.code_chunk.specs.declared.code.CodeVal.{CodeVal}
use Rattle.code_chunk.specs.Canonical.{canonical_code}
use Rattle.code_chunk.specs.Code.{CodeMeetsType, IsProperInstr}
use Rattle.beam_module.specs.declared.chunk_value.ChunkVal.{ChunkVal}
use Rattle.beam_module.specs.declared.chunk_value.ChunkVal.TheVariants.{Code, Raw}
use Rattle.beam_module.specs.File.{FileChunk, IsFile}

abbrev pub canonical_payload : ChunkVal → List ℕ
canonical_payload (Code c) = canonical_code c
canonical_payload (Raw bytes) = bytes

abbrev pub canonical_chunk_of : FileChunk → PlainChunk
canonical_chunk_of v = record { id = v.0; payload = canonical_payload v.1 }

-- the chunks of the canonical file
abbrev pub canonical_chunks : List FileChunk → List PlainChunk
canonical_chunks v = map canonical_chunk_of v

-- the canonical file of a value
abbrev pub canonical_file : List FileChunk → List ℕ
canonical_file v = canonical_form (canonical_chunks v)

-- a file is canonical where it is the canonical file of its value
abbrev pub IsCanonical : List ℕ → Type 0
IsCanonical bytes = (v : List FileChunk) × IsFile v bytes × (bytes ≡ canonical_file v)

-- ---- the code of a value, whose canonical payload is made before the others

-- the code of the first chunk that is code
abbrev pub code_in : List FileChunk → Option CodeVal
code_in [] = None
code_in ((id, Code c) ∷ chunks) = Some c
code_in ((id, Raw bytes) ∷ chunks) = code_in chunks

-- the code has this payload
abbrev pub IsWrittenAs : List ℕ → ChunkVal → Type 0
IsWrittenAs payload (Code c) = payload ≡ canonical_code c
IsWrittenAs payload (Raw bytes) = ⊤

-- ---- which values have a canonical file

-- each operand of the code is proper
abbrev pub HasProperOperands : ChunkVal → Type 0
HasProperOperands (Code c) = All IsProperInstr c.instrs
HasProperOperands (Raw bytes) = ⊤

-- operands are proper, and the size of the form fits into a word
pub record IsWritable (v : List FileChunk) : Type 0 where
  pub operands : AllByRecursion (λ c. HasProperOperands c.1) v
  pub size : form_size (canonical_chunks v) < 2 ^ 32

-- ---- what holds of every value that a program holds

abbrev pub ValueMeetsType : ChunkVal → Type 0
ValueMeetsType (Code c) = CodeMeetsType c
ValueMeetsType (Raw bytes) = IsBytes bytes

-- the id has four bytes, and the value meets its type
pub record ChunkMeetsType (v : FileChunk) : Type 0 where
  pub id : length v.0.0 ≡ 4
  pub id_bytes : IsBytes v.0.0
  pub value : ValueMeetsType v.1

abbrev pub FileMeetsType : List FileChunk → Type 0
FileMeetsType v = AllByRecursion ChunkMeetsType v
