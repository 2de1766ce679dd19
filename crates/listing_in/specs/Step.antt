-- How a line without its comment goes on with what was read before it, or what is wrong with it.
use Rattle.std.specs.Prelude.{ℕ, Bool, ◌==◌, ◌%◌, ◌&&◌, nat_lt, nat_le, if◌then◌else◌, List, [], ◌∷◌, ◌++◌, length, codes, bytes_eq, Option, Some, None, Result, Ok, Err}
use Rattle.std.specs.List.{list_any}
use Rattle.std.specs.Option.{option_and_then}
use Rattle.bk_codec.specs.Reading.{◌>>=◌, refused_as}
use Rattle.bk_parse.specs.HexBytes.{bytes_of}
use Rattle.bk_parse.specs.Parts.{parts_at}
use Rattle.iff_form.specs.declared.id.Id.{Id}
use Rattle.op_table.specs.Instruction.{Instruction}
use Rattle.code_chunk.specs.declared.code.CodeVal.{CodeVal}
use Rattle.beam_module.specs.File.{FileChunk, code_id}
use Rattle.listing_in.specs.declared.refusal.ListingWhy.TheVariants as whys
use Rattle.listing_in.specs.declared.stop.LineStop.{LineStop}
use Rattle.listing_in.specs.declared.stop.LineStop.TheVariants as stops
use Rattle.listing_in.specs.Header.{header_of}
use Rattle.listing_in.specs.Ids.{id_of}
use Rattle.listing_in.specs.Instruction.{instruction_of}
use Rattle.listing_in.specs.State.{State, Start, Begun, Filling, Coding, chunks_of}

-- ---- lines within a chunk

-- 1 to 32 bytes
abbrev pub row_with : List ℕ → Option (List ℕ)
row_with bytes = if nat_lt 0 (length bytes) && nat_le (length bytes) 32 then Some bytes else None

abbrev pub row_of : List ℕ → Option (List ℕ)
row_of text = option_and_then row_with (bytes_of text)

abbrev pub filled : List FileChunk → Id → List ℕ → Option (List ℕ) → Result State LineStop
filled closed id payload None = Err (stops.Wrong whys.Hex)
filled closed id payload (Some row) = Ok (Filling closed id (payload ++ row))

-- code with one instruction more
abbrev pub coded : CodeVal → Instruction → CodeVal
coded c i = record { extra = c.extra; max_op = c.max_op; labels = c.labels; functions = c.functions; instrs = c.instrs ++ i ∷ [] }

-- what stands behind two spaces: bytes of a payload, unless its last line is short, or an instruction
abbrev pub within : State → List ℕ → Result State LineStop
within Start text = Err (stops.Wrong whys.Keyword)
within Begun text = Err (stops.Wrong whys.Keyword)
within (Filling closed id payload) text = if length payload % 32 == 0 then filled closed id payload (row_of text) else Err (stops.Wrong whys.Short)
within (Coding closed code) text = refused_as stops.Wrong (instruction_of text) >>= λ i. Ok (Coding closed (coded code i))

-- ---- lines that begin a chunk

abbrev pub is_seen : Id → List FileChunk → Bool
is_seen id chunks = list_any (λ c. bytes_eq id.0 c.0.0) chunks

-- a chunk with this id goes on so, unless there is one already
abbrev pub begun_as : List FileChunk → Id → State → Result State LineStop
begun_as chunks id s = if is_seen id chunks then Err (stops.Twice id) else Ok s

-- an id other than that of code
abbrev pub payload_begins : List FileChunk → Option Id → Result State LineStop
payload_begins chunks None = Err (stops.Wrong whys.Id)
payload_begins chunks (Some id) = if bytes_eq id.0 code_id.0 then Err (stops.Wrong whys.Id) else begun_as chunks id (Filling chunks id [])

abbrev pub chunk_begins : List FileChunk → List (List ℕ) → Result State LineStop
chunk_begins chunks (text ∷ []) = payload_begins chunks (id_of text)
chunk_begins chunks _ = Err (stops.Wrong whys.Id)

abbrev pub code_begins : List FileChunk → Option CodeVal → Result State LineStop
code_begins chunks None = Err (stops.Wrong whys.Number)
code_begins chunks (Some code) = begun_as chunks code_id (Coding chunks code)

-- what stands before the first space is `chunk` or `code`
abbrev pub keyword_begins : List FileChunk → List (List ℕ) → Result State LineStop
keyword_begins chunks [] = Err (stops.Wrong whys.Keyword)
keyword_begins chunks (word ∷ fields) =
    if bytes_eq word (codes "chunk") then chunk_begins chunks fields
    else if bytes_eq word (codes "code") then code_begins chunks (header_of fields) else Err (stops.Wrong whys.Keyword)

-- ---- all lines

-- what stands behind two leading spaces
abbrev pub indented_of : List ℕ → Option (List ℕ)
indented_of (a ∷ b ∷ text) = if (a == 32) && (b == 32) then Some text else None
indented_of _ = None

abbrev pub line_within : State → List ℕ → Option (List ℕ) → Result State LineStop
line_within s line (Some text) = within s text
line_within s line None = keyword_begins (chunks_of s) (parts_at 32 line)

-- the first line is the head
abbrev pub next_line : State → List ℕ → Result State LineStop
next_line Start line = if bytes_eq line (codes "beam 1") then Ok Begun else Err (stops.Wrong whys.Head)
next_line s line = line_within s line (indented_of line)
