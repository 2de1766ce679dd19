-- A chunk of a form: an id of four bytes, the payload's length as a word, the payload, and padding up to a multiple of four bytes.
use Rattle.std.specs.Prelude.{◌≡◌, ℕ, ◌+◌, ◌-◌, ◌%◌, ◌^◌, ◌<◌, Bool, List, ◌++◌, length, map}
use Rattle.std.specs.Str.{bytes_eq}
use Rattle.byteorder.specs.Endian.{big_bytes}
use Rattle.iff_form.specs.declared.id.Id.{Id}
use Rattle.iff_form.specs.declared.chunk.Chunk.{Chunk}
use Rattle.iff_form.specs.declared.chunk_list.OwnedChunk.{OwnedChunk}

-- a chunk without where it lies
pub record PlainChunk : Type 0 where
  pub id : Id
  pub payload : List ℕ

abbrev pub plain : Chunk → PlainChunk
plain c = record { id = c.id; payload = c.payload.now }

abbrev pub plains : List Chunk → List PlainChunk
plains cs = map plain cs

-- the same of a chunk that owns its payload
abbrev pub owned_plain : OwnedChunk → PlainChunk
owned_plain c = record { id = c.id; payload = c.payload }

abbrev pub owned_plains : List OwnedChunk → List PlainChunk
owned_plains cs = map owned_plain cs

-- the fewest bytes that fill up n bytes to a multiple of four
abbrev pub padding_of : ℕ → ℕ
padding_of n = (4 - n % 4) % 4

-- how many bytes a chunk with a payload of n bytes takes in a form
abbrev pub size_with : ℕ → ℕ
size_with n = 8 + n + padding_of n

abbrev pub chunk_size : PlainChunk → ℕ
chunk_size c = size_with (length c.payload)

-- the bytes are this chunk; the padding may be any bytes
pub record SpellsChunk (c : PlainChunk) (bytes : List ℕ) : Type 0 where
  pub padding : List ℕ
  pub id : length c.id.0 ≡ 4
  pub size : length c.payload < 2 ^ 32
  pub padded : length padding ≡ padding_of (length c.payload)
  pub joined : bytes ≡ c.id.0 ++ (big_bytes 4 (length c.payload) ++ (c.payload ++ padding))

-- two chunks have the same id
abbrev pub is_same_id : PlainChunk → PlainChunk → Bool
is_same_id a b = bytes_eq a.id.0 b.id.0
