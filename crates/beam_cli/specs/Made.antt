-- What a command makes of its files: an output, or the refusal of one of them.
use Rattle.std.specs.Prelude.{◌≡◌, ◌⊎◌, ℕ, Bool, false, List, Result, Ok, Err}
use Rattle.std.specs.Borrow.{Bor}
use Rattle.bk_codec.specs.Reading.{◌>>=◌, refused_as}
use Rattle.beam_cli.specs.declared.output.Output.{Output}
use Rattle.beam_cli.specs.declared.refusal.Refusal.{Refusal}
use Rattle.beam_cli.specs.declared.refusal.Refusal.TheVariants as refusals
use Rattle.beam_cli.specs.declared.stop.Stop.{Stop}
use Rattle.beam_cli.specs.declared.stop.Stop.TheVariants.{Grammar, NoMemory}
use Rattle.beam_cli.specs.Files.{NamedFile}
use Rattle.beam_cli.specs.Reasons.{IsReason}

-- the text, and whether a check found something
pub record Made : Type 0 where
  pub text : List ℕ
  pub found : Bool

abbrev pub made_of_output : Output → Made
made_of_output output = record { text = output.text.items; found = output.found }

-- the refusal of the file with this name
pub record NamedRefusal : Type 0 where
  pub name : List ℕ
  pub refusal : Refusal

-- what was read of this file, or its refusal
abbrev pub read_of : {A : Type 0} → NamedFile → Result A Refusal → Result A NamedRefusal
read_of file read = refused_as (λ e. record { name = file.name; refusal = e }) read

abbrev pub plain : List ℕ → Result Made NamedRefusal
plain text = Ok (record { text = text; found = false })

-- the output of a command that reads one file and checks nothing
abbrev pub print_read : NamedFile → Result (List ℕ) Refusal → Result Made NamedRefusal
print_read file read = read_of file read >>= plain

abbrev pub prints : (List ℕ → Result (List ℕ) Refusal) → NamedFile → Result Made NamedRefusal
prints output file = print_read file (output file.bytes)

-- the output of a command that reads one file and checks something
abbrev pub checks : (List ℕ → Result Made Refusal) → NamedFile → Result Made NamedRefusal
checks output file = read_of file (output file.bytes)

-- what stops a command on the file with this name: want of memory, or the reason to refuse the file
abbrev pub IsStopFor : Bor (List ℕ) → Refusal → Stop → Type 0
IsStopFor name e stop = ((e ≡ refusals.NoMemory) × (stop ≡ NoMemory)) ⊎ (IsReason e × (stop ≡ Grammar name e))

-- a stop says this refusal, by the reason that it gives
abbrev pub SaysRefusal : {B : Type 0} → Result B NamedRefusal → Stop → Type 0
SaysRefusal read stop = (name : Bor (List ℕ)) × (e : Refusal) × IsReason e × (stop ≡ Grammar name e) × (read ≡ Err (record { name = name.now; refusal = e }))

-- a call on files answered what is stated, want of memory aside
abbrev pub GivesOf : {A B : Type 0} → (A → B) → Result A Stop → Result B NamedRefusal → Type 0
GivesOf view (Ok x) read = read ≡ Ok (view x)
GivesOf view (Err stop) read = (stop ≡ NoMemory) ⊎ SaysRefusal read stop
