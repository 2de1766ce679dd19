-- How ids and forms are printed.
use Rattle.std.specs.Prelude.{ℕ, Bool, List, ◌++◌, length, codes, decimal, if◌then◌else◌}
use Rattle.std.specs.Char.{is_ascii_alphanumeric}
use Rattle.std.specs.List.{list_all, flat_map}
use Rattle.hex.specs.Hex.{encode_lower}
use Rattle.iff_form.specs.declared.id.Id.{Id}
use Rattle.iff_form.specs.Chunk.{PlainChunk}
use Rattle.iff_form.specs.Form.{form_size}

-- all four bytes are ASCII letters or digits
abbrev pub is_plain_id : Id → Bool
is_plain_id id = list_all is_ascii_alphanumeric id.0

-- the four bytes as they are, or `#` and eight hexadecimal digits
abbrev pub id_text : Id → List ℕ
id_text id = if is_plain_id id then id.0 else codes "#" ++ encode_lower id.0

-- the id and the payload's length
abbrev pub chunk_line : PlainChunk → List ℕ
chunk_line c = id_text c.id ++ (codes " " ++ (decimal (length c.payload) ++ codes "\n"))

-- the form's size, and a line for each chunk
abbrev pub info_of : List PlainChunk → List ℕ
info_of chunks = codes "form " ++ (decimal (form_size chunks) ++ (codes "\n" ++ flat_map chunk_line chunks))
