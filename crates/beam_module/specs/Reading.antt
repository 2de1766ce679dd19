-- How a file is read: the form, and then the code, with the first refusal.
use Rattle.std.specs.Prelude.{ℕ, List, [], ◌∷◌, codes, bytes_eq, Result, Ok, if◌then◌else◌}
use Rattle.bk_codec.specs.Reading.{◌>>=◌, refused_as}
use Rattle.iff_form.specs.Chunk.{PlainChunk}
use Rattle.iff_form.specs.Reading.{form_of}
use Rattle.code_chunk.specs.Reading.{code_at}
use Rattle.beam_module.specs.declared.chunk_value.ChunkVal.TheVariants as values
use Rattle.beam_module.specs.declared.refusal.ModuleRefusal.{ModuleRefusal}
use Rattle.beam_module.specs.declared.refusal.ModuleRefusal.TheVariants as refusals
use Rattle.beam_module.specs.File.{FileChunk}

-- the value of a chunk
abbrev pub value_of : PlainChunk → Result FileChunk ModuleRefusal
value_of c =
    if bytes_eq c.id.0 (codes "Code") then (refused_as refusals.Code (code_at c.payload) >>= λ code. Ok (c.id, values.Code code))
    else Ok (c.id, values.Raw c.payload)

-- the values of the chunks, in order
abbrev pub values_of : List PlainChunk → Result (List FileChunk) ModuleRefusal
values_of [] = Ok []
values_of (c ∷ chunks) = value_of c >>= λ value. values_of chunks >>= λ others. Ok (value ∷ others)

-- the chunks of the form that the bytes are
abbrev pub form_or : List ℕ → Result (List PlainChunk) ModuleRefusal
form_or bytes = refused_as refusals.Form (form_of bytes)

-- the value of the file that the bytes are
abbrev pub file_of : List ℕ → Result (List FileChunk) ModuleRefusal
file_of bytes = form_or bytes >>= values_of
