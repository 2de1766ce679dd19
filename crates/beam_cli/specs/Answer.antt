-- The answer: what the words and the bytes that the named files hold decide.
use Rattle.std.specs.Prelude.{ℕ, List, [], Bool, Option, Some, None, option_map, Result, Ok, Err, if◌then◌else◌}
use Rattle.bk_codec.specs.Reading.{◌>>=◌}
use Rattle.iff_form.specs.Text.{info_of}
use Rattle.listing_out.specs.Comments.{commented_listing}
use Rattle.beam_module.specs.Strip.{stripped_file}
use Rattle.beam_module.specs.Canonical.{canonical_file}
use Rattle.beam_cli.specs.declared.command.Command.{Command}
use Rattle.beam_cli.specs.declared.command.Command.TheVariants.{Info, Show, Disasm, Asm, Strip, Canon, Cmp, Validate, Gen}
use Rattle.beam_cli.specs.declared.refusal.Refusal.{Refusal}
use Rattle.beam_cli.specs.declared.status.Status.{Status}
use Rattle.beam_cli.specs.declared.status.Status.TheVariants.{Done, Refused, Usage, Grammar, TooLarge}
use Rattle.beam_cli.specs.Words.{Asked, asked_by}
use Rattle.beam_cli.specs.Files.{NamedFile, file_at, told, too_large}
use Rattle.beam_cli.specs.Message.{line_about, usage_line, too_large_line, refusal_text}
use Rattle.beam_cli.specs.Generating.{generated_output}
use Rattle.beam_cli.specs.Needs.{chunks_of, listed_value, value_of_file}
use Rattle.beam_cli.specs.Showing.{show_output}
use Rattle.beam_cli.specs.Made.{Made, NamedRefusal, checks, prints}
use Rattle.beam_cli.specs.Comparing.{cmp_output}
use Rattle.beam_cli.specs.Validating.{validate_output}

-- what is written to the output, the message, and the status
pub record Answer : Type 0 where
  pub output : List ℕ
  pub message : List ℕ
  pub status : Status

-- the status of an output: a check found something, or nothing
abbrev pub status_when : Bool → Status
status_when found = if found then Refused else Done

abbrev pub made : Made → Answer
made m = record { output = m.text; message = []; status = status_when m.found }

abbrev pub stopped : List ℕ → Status → Answer
stopped message status = record { output = []; message = message; status = status }

-- the output, or the refusal of a file
abbrev pub answered : Result Made NamedRefusal → Answer
answered (Ok m) = made m
answered (Err r) = stopped (line_about r.name (refusal_text r.refusal)) Grammar

-- the output of `info`
abbrev pub info_output : List ℕ → Result (List ℕ) Refusal
info_output bytes = chunks_of bytes >>= λ chunks. Ok (info_of chunks)

-- the output of `disasm`
abbrev pub disasm_output : List ℕ → Result (List ℕ) Refusal
disasm_output bytes = value_of_file bytes >>= λ value. Ok (commented_listing value)

-- the output of `asm`
abbrev pub asm_output : List ℕ → Result (List ℕ) Refusal
asm_output text = listed_value text >>= λ value. Ok (canonical_file value)

-- the output of `strip`
abbrev pub strip_output : List ℕ → Result (List ℕ) Refusal
strip_output bytes = chunks_of bytes >>= λ chunks. Ok (stripped_file chunks)

-- the output of `canon`
abbrev pub canon_output : List ℕ → Result (List ℕ) Refusal
canon_output bytes = value_of_file bytes >>= λ value. Ok (canonical_file value)

-- the output of a command for its files, or the first refusal, file by file
abbrev pub output_of : Command → List NamedFile → Result Made NamedRefusal
output_of Info files = prints info_output (file_at files 0)
output_of (Show what) files = prints (show_output what) (file_at files 0)
output_of Disasm files = prints disasm_output (file_at files 0)
output_of Asm files = prints asm_output (file_at files 0)
output_of Strip files = prints strip_output (file_at files 0)
output_of Canon files = prints canon_output (file_at files 0)
output_of Cmp files = cmp_output (file_at files 0) (file_at files 1)
output_of Validate files = checks validate_output (file_at files 0)
output_of (Gen n) files = Ok (generated_output n)

-- the first file that has too many bytes comes before every refusal
abbrev pub unless_too_large : Option (List ℕ) → Answer → Answer
unless_too_large None answer = answer
unless_too_large (Some name) answer = stopped (too_large_line name) TooLarge

abbrev pub answer_for : Command → List NamedFile → Answer
answer_for command files = unless_too_large (too_large files) (answered (output_of command files))

-- none where what a named file holds is not told
abbrev pub asked_answer : (List ℕ → Option (List ℕ)) → Asked → Option Answer
asked_answer holds asked = option_map (answer_for asked.command) (told holds asked.names)

abbrev pub answer_or_usage : (List ℕ → Option (List ℕ)) → Option Asked → Option Answer
answer_or_usage holds None = Some (stopped usage_line Usage)
answer_or_usage holds (Some asked) = asked_answer holds asked

abbrev pub answer : (List ℕ → Option (List ℕ)) → List (List ℕ) → Option Answer
answer holds words = answer_or_usage holds (asked_by words)
