-- The canonical spelling of a form: the padding is zeros.
use Rattle.std.specs.Prelude.{◌≡◌, ℕ, List, ◌++◌, length, replicate}
use Rattle.std.specs.List.{flat_map}
use Rattle.byteorder.specs.Endian.{big_bytes}
use Rattle.bk_codec.specs.Spelling.{IsBytes}
use Rattle.iff_form.specs.Chunk.{PlainChunk, padding_of}
use Rattle.iff_form.specs.Form.{form_size, head_of}

-- zeros up to a multiple of four bytes
abbrev pub zeros_behind : ℕ → List ℕ
zeros_behind n = replicate (padding_of n) 0

abbrev pub canonical_chunk : PlainChunk → List ℕ
canonical_chunk c = c.id.0 ++ (big_bytes 4 (length c.payload) ++ (c.payload ++ zeros_behind (length c.payload)))

abbrev pub canonical_form : List PlainChunk → List ℕ
canonical_form chunks = head_of (form_size chunks) ++ flat_map canonical_chunk chunks

-- a chunk meets its type: its id has four bytes, and bytes are bytes
pub record ChunkMeetsType (c : PlainChunk) : Type 0 where
  pub id : length c.id.0 ≡ 4
  pub id_bytes : IsBytes c.id.0
  pub payload : IsBytes c.payload
