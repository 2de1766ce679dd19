-- What commands need of a file, with the first refusal where it is missing.
use Rattle.std.specs.Prelude.{ℕ, List, Option, Some, None, Result, Ok, Err}
use Rattle.bk_codec.specs.Reading.{◌>>=◌, refused_as}
use Rattle.iff_form.specs.declared.id.Id.{Id}
use Rattle.iff_form.specs.Chunk.{PlainChunk}
use Rattle.iff_form.specs.Form.{payload_of}
use Rattle.iff_form.specs.Reading.{form_of}
use Rattle.beam_module.specs.File.{FileChunk}
use Rattle.beam_module.specs.Module.{ModuleValue}
use Rattle.beam_module.specs.Opening.{module_of}
use Rattle.beam_module.specs.Reading.{file_of}
use Rattle.listing_in.specs.Reading.{listing_value}
use Rattle.beam_cli.specs.declared.refusal.Refusal.{Refusal}
use Rattle.beam_cli.specs.declared.refusal.Refusal.TheVariants.{Form, Missing}
use Rattle.beam_cli.specs.Reasons.{listing_refusal, module_refusal}

-- the chunks of the form that the file is
abbrev pub chunks_of : List ℕ → Result (List PlainChunk) Refusal
chunks_of bytes = refused_as Form (form_of bytes)

-- the payload of a chunk that has to be there
abbrev pub found_or : Id → Option (List ℕ) → Result (List ℕ) Refusal
found_or id (Some payload) = Ok payload
found_or id None = Err (Missing id)

abbrev pub payload_at : Id → List PlainChunk → Result (List ℕ) Refusal
payload_at id chunks = found_or id (payload_of id chunks)

-- what the payload of a chunk is, which has to be there
abbrev pub part_at : {A E : Type 0} → (E → Refusal) → (List ℕ → Result A E) → Id → List PlainChunk → Result A Refusal
part_at why read id chunks = payload_at id chunks >>= λ payload. refused_as why (read payload)

-- the value of the file: its form, and the code where there is a chunk for it
abbrev pub value_of_file : List ℕ → Result (List FileChunk) Refusal
value_of_file bytes = refused_as module_refusal (file_of bytes)

-- the module that the file is
abbrev pub module_of_file : List ℕ → Result ModuleValue Refusal
module_of_file bytes = refused_as module_refusal (module_of bytes)

-- the value of the file that a text lists
abbrev pub listed_value : List ℕ → Result (List FileChunk) Refusal
listed_value text = refused_as listing_refusal (listing_value text)
