-- What was read of a listing up to a line: a file, whose last chunk may go on.
use Rattle.std.specs.Prelude.{ℕ, List, [], ◌∷◌, ◌++◌, Option, Some, None}
use Rattle.iff_form.specs.declared.id.Id.{Id}
use Rattle.code_chunk.specs.declared.code.CodeVal.{CodeVal}
use Rattle.beam_module.specs.declared.chunk_value.ChunkVal.TheVariants.{Code, Raw}
use Rattle.beam_module.specs.File.{FileChunk, code_id}
use Rattle.listing_out.specs.Lines.{lines}

-- before and behind the first line, in a payload, and in code; the chunks before it are whole
pub data State : Type 0 where
  Start : State
  Begun : State
  Filling : List FileChunk → Id → List ℕ → State
  Coding : List FileChunk → CodeVal → State

-- the chunks of the file that was listed up to now
abbrev pub chunks_of : State → List FileChunk
chunks_of Start = []
chunks_of Begun = []
chunks_of (Filling closed id payload) = closed ++ (id, Raw payload) ∷ []
chunks_of (Coding closed code) = closed ++ (code_id, Code code) ∷ []

-- that file; there is none before the first line
abbrev pub value_of : State → Option (List FileChunk)
value_of Start = None
value_of s = Some (chunks_of s)

-- its lines
abbrev pub lines_of : Option (List FileChunk) → List (List ℕ)
lines_of None = []
lines_of (Some v) = lines v
