-- The value of a file: its chunks in the order of the form, where the chunk `Code` is code and every other one is its payload.
use Rattle.std.specs.Prelude.{◌≡◌, ℕ, Bool, false, List, codes}
use Rattle.std.specs.List.{IsDistinct, AllByRecursion, AllZip, list_any}
use Rattle.std.specs.Str.{bytes_eq}
use Rattle.iff_form.specs.declared.id.Id.{Id}
use Rattle.iff_form.specs.Chunk.{PlainChunk}
use Rattle.iff_form.specs.Form.{IsForm}
use Rattle.code_chunk.specs.Spelling.{SpellsCode}
use Rattle.beam_module.specs.declared.chunk_value.ChunkVal.{ChunkVal}
use Rattle.beam_module.specs.declared.chunk_value.ChunkVal.TheVariants.{Code, Raw}

-- a chunk with its id
abbrev pub FileChunk : Type 0
FileChunk = Id × ChunkVal

abbrev pub code_id : Id
code_id = record { 0 = codes "Code" }

-- code stands in the chunk `Code` and nowhere else
abbrev pub HoldsItsKind : FileChunk → Type 0
HoldsItsKind (id, Code c) = id ≡ code_id
HoldsItsKind (id, Raw payload) = id ≡ code_id → ⊥

-- two chunks have the same id
abbrev pub is_same_id : FileChunk → FileChunk → Bool
is_same_id a b = bytes_eq a.0.0 b.0.0

-- no chunk has the id
abbrev pub IsNew : Id → List FileChunk → Type 0
IsNew id chunks = list_any (λ c. bytes_eq id.0 c.0.0) chunks ≡ false

-- the chunks of a file
pub record AreChunks (chunks : List FileChunk) : Type 0 where
  pub distinct : IsDistinct is_same_id chunks
  pub kinds : AllByRecursion HoldsItsKind chunks

-- ---- the file of a value

-- the payload is that of the value: it spells the code, or it is the bytes
abbrev pub IsPayload : ChunkVal → List ℕ → Type 0
IsPayload (Code c) payload = SpellsCode c payload
IsPayload (Raw bytes) payload = payload ≡ bytes

-- a chunk of a form has the id and the payload of the value, which is code in the chunk `Code` alone
pub record IsChunk (v : FileChunk) (c : PlainChunk) : Type 0 where
  pub id : c.id ≡ v.0
  pub kind : HoldsItsKind v
  pub payload : IsPayload v.1 c.payload

-- the bytes are a file of the value: a form of its chunks, in their order
pub record IsFile (v : List FileChunk) (bytes : List ℕ) : Type 0 where
  pub chunks : List PlainChunk
  pub form : IsForm chunks bytes
  pub values : AllZip IsChunk v chunks
