-- The last chunk of a file, which may go on, behind whole chunks.
use Rattle.std.specs.Prelude.{ℕ, List}
use Rattle.iff_form.specs.declared.id.Id.{Id}
use Rattle.code_chunk.specs.declared.code.CodeVal.{CodeVal}
use Rattle.beam_module.specs.File.{FileChunk}
use Rattle.listing_in.specs.State.{State, Filling, Coding}

pub record OpenPayload : Type 0 where
  pub closed : List FileChunk
  pub id : Id
  pub payload : List ℕ

pub record OpenCode : Type 0 where
  pub closed : List FileChunk
  pub code : CodeVal

-- what was read up to now
abbrev pub filling : OpenPayload → State
filling p = Filling p.closed p.id p.payload

abbrev pub coding : OpenCode → State
coding c = Coding c.closed c.code
