-- The form that a BEAM file is: `FOR1`, a word that is the file's length less 8, `BEAM`, and chunks, of which no two have the same id.
use Rattle.std.specs.Prelude.{◌≡◌, ℕ, ◌+◌, ◌^◌, ◌<◌, false, List, [], ◌∷◌, ◌++◌, length, sum_by, codes, Option, Some, None, if◌then◌else◌}
use Rattle.std.specs.List.{IsDistinct, list_any}
use Rattle.std.specs.Str.{bytes_eq}
use Rattle.byteorder.specs.Endian.{big_bytes}
use Rattle.bk_codec.specs.Spelling.{SpellsMany}
use Rattle.iff_form.specs.declared.id.Id.{Id}
use Rattle.iff_form.specs.Chunk.{PlainChunk, SpellsChunk, chunk_size, is_same_id}

-- no two chunks have the same id
abbrev pub AreDistinct : List PlainChunk → Type 0
AreDistinct chunks = IsDistinct is_same_id chunks

-- no chunk has the id
abbrev pub IsNew : Id → List PlainChunk → Type 0
IsNew id chunks = list_any (λ c. bytes_eq id.0 c.id.0) chunks ≡ false

-- what the size word of a form of these chunks is: `BEAM` and the chunks
abbrev pub form_size : List PlainChunk → ℕ
form_size chunks = 4 + sum_by chunk_size chunks

-- the first twelve bytes of a form
abbrev pub head_of : ℕ → List ℕ
head_of size = codes "FOR1" ++ (big_bytes 4 size ++ codes "BEAM")

-- the bytes are a form of these chunks
pub record IsForm (chunks : List PlainChunk) (bytes : List ℕ) : Type 0 where
  pub body : List ℕ
  pub spelled : SpellsMany SpellsChunk chunks body
  pub distinct : AreDistinct chunks
  pub fits : 4 + length body < 2 ^ 32
  pub joined : bytes ≡ head_of (4 + length body) ++ body

-- where each chunk's id stands, in a form whose first chunk stands at this offset
abbrev pub offsets_from : ℕ → List PlainChunk → List ℕ
offsets_from at [] = []
offsets_from at (c ∷ chunks) = at ∷ offsets_from (at + chunk_size c) chunks

-- the payload of the chunk with the id
abbrev pub payload_of : Id → List PlainChunk → Option (List ℕ)
payload_of id [] = None
payload_of id (c ∷ chunks) = if bytes_eq c.id.0 id.0 then Some c.payload else payload_of id chunks
