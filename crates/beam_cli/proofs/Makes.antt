-- What a command makes of its files is the answer, and what stops it has its reason there.
use Rattle.std.proofs.Common.{◌≡◌, ℕ, ◌<◌, List, length, map, Option, Some, None, Result, Ok, Err, ◌⊎◌, inl, inr, refl, sym, ap, subst, arith}
use Rattle.std.specs.Prelude.{Any, IfOk, IfErr, IfSome, option_map}
use Rattle.std.specs.List.{AllZip}
use Rattle.bk_codec.specs.Reading.{◌>>=◌}
use Rattle.bk_port.specs.declared.reading.TheConstants.{MOST_BYTES}
use Rattle.beam_cli.specs.declared.command.Command.{Command}
use Rattle.beam_cli.specs.declared.command.Command.TheVariants.{Info, Show, Disasm, Asm, Strip, Canon, Cmp, Validate, Gen}
use Rattle.beam_cli.specs.declared.loading.LoadedFile.{LoadedFile}
use Rattle.beam_cli.specs.declared.output.Output.{Output}
use Rattle.beam_cli.specs.declared.refusal.Refusal.{Refusal}
use Rattle.beam_cli.specs.declared.status.Status.TheVariants as statuses
use Rattle.beam_cli.specs.declared.stop.Stop.{Stop}
use Rattle.beam_cli.specs.declared.stop.Stop.TheVariants.{Grammar, ReadFault, TooLarge, NoMemory}
use Rattle.beam_cli.specs.Words.{Asked, file_count}
use Rattle.beam_cli.specs.Files.{NamedFile, named_file, file_at, told, too_large, IsLoaded, IsFirst, IsFirstTooLarge}
use Rattle.beam_cli.specs.Made.{Made, NamedRefusal, GivesOf, SaysRefusal, made_of_output, plain, prints, read_of}
use Rattle.beam_cli.specs.Comparing.{NamedForm, cmp_output, compared, comparison_of, named_form}
use Rattle.beam_cli.specs.Validating.{validate_output}
use Rattle.beam_cli.specs.Answer.{Answer, answer_for, answered, asked_answer, made, output_of, stopped, info_output, disasm_output, asm_output, strip_output, canon_output}
use Rattle.beam_cli.specs.Message.{line_about, refusal_text, too_large_line}
use Rattle.beam_cli.specs.Showing.{show_output}
use Rattle.beam_cli.specs.Stopping.{HasLoadReasons, HasReason, IsReadFault}
use Rattle.bk_codec.proofs.Steps.{bind_err}
use Rattle.beam_cli.proofs.Loads.{first_as, first_is_named, large_is_told, loaded_are_small, loaded_are_told, named_at}

-- ---- the answer to files that were loaded

told_answer : (files : Option (List NamedFile)) (command : Command) (all : List NamedFile) (a : Answer) → IfSome files (λ f. f ≡ all) → answer_for command all ≡ a
    → IfSome (option_map (answer_for command) files) (λ b. b ≡ a)
told_answer None command all a same is = tt
told_answer (Some files) command all a same is = rw same is

loaded_answer : (holds : List ℕ → Option (List ℕ)) (asked : Asked) (files : List LoadedFile) → AllZip (IsLoaded holds) asked.names files
    → IfSome (asked_answer holds asked) (λ a. a ≡ answered (output_of asked.command (map named_file files)))
loaded_answer holds asked files loaded =
    told_answer (told holds asked.names) asked.command (map named_file files) (answered (output_of asked.command (map named_file files))) (loaded_are_told holds asked.names files loaded)
    (rw (loaded_are_small holds asked.names files loaded) refl)

made_answer : (holds : List ℕ → Option (List ℕ)) (asked : Asked) (files : List LoadedFile) (output : Output) → AllZip (IsLoaded holds) asked.names files
    → output_of asked.command (map named_file files) ≡ Ok (made_of_output output) → IfSome (asked_answer holds asked) (λ a. a ≡ made (made_of_output output))
made_answer holds asked files output loaded is =
    subst (λ (r : Result Made NamedRefusal). IfSome (asked_answer holds asked) (λ a. a ≡ answered r)) is (loaded_answer holds asked files loaded)

-- ---- which file is refused

read_refused : {A : Type 0} (file : NamedFile) (read : Result A Refusal) (r : NamedRefusal) → read_of file read ≡ Err r → file.name ≡ r.name
read_refused file (Ok x) r h = absurd cc
read_refused file (Err e) r h = let same : record { name = file.name; refusal = e } ≡ r = cc in ap (λ (x : NamedRefusal). x.name) same

print_refused : (output : List ℕ → Result (List ℕ) Refusal) (file : NamedFile) (r : NamedRefusal) → prints output file ≡ Err r → file.name ≡ r.name
print_refused output file r h =
    elim (bind_err (read_of file (output file.bytes)) plain r h) [
      | inl first ↦ read_refused file (output file.bytes) r first
      | inr second ↦ absurd cc
    ]

cmp_refused : (a b : NamedFile) (r : NamedRefusal) → cmp_output a b ≡ Err r → (a.name ≡ r.name) ⊎ (b.name ≡ r.name)
cmp_refused a b r h =
    elim (bind_err (read_of a (named_form a.bytes)) (λ f. read_of b (named_form b.bytes) >>= λ g. Ok (compared (comparison_of f g))) r h) [
      | inl first ↦ inl (read_refused a (named_form a.bytes) r first)
      | inr second ↦ elim (bind_err (read_of b (named_form b.bytes)) (λ (g : NamedForm). Ok (compared (comparison_of second.0 g))) r second.2) [
        | inl other ↦ inr (read_refused b (named_form b.bytes) r other)
        | inr both ↦ absurd cc
      ]
    ]

named_as : (names : List (List ℕ)) (name other : List ℕ) → name ≡ other → Any (λ n. n ≡ name) names → Any (λ n. n ≡ other) names
named_as names name other same some = subst (λ (x : List ℕ). Any (λ n. n ≡ x) names) same some

-- a refused file is one of those that were named
refused_is_named : (holds : List ℕ → Option (List ℕ)) (names : List (List ℕ)) (files : List LoadedFile) (command : Command) (r : NamedRefusal) → AllZip (IsLoaded holds) names files → length names ≡ file_count command
    → output_of command (map named_file files) ≡ Err r → Any (λ n. n ≡ r.name) names
refused_is_named holds names files Info r loaded long h = named_as names _ r.name (print_refused info_output (file_at (map named_file files) 0) r h) (named_at holds names files 0 loaded (omega (arith, long)))
refused_is_named holds names files (Show what) r loaded long h = named_as names _ r.name (print_refused (show_output what) (file_at (map named_file files) 0) r h) (named_at holds names files 0 loaded (omega (arith, long)))
refused_is_named holds names files Disasm r loaded long h = named_as names _ r.name (print_refused disasm_output (file_at (map named_file files) 0) r h) (named_at holds names files 0 loaded (omega (arith, long)))
refused_is_named holds names files Asm r loaded long h = named_as names _ r.name (print_refused asm_output (file_at (map named_file files) 0) r h) (named_at holds names files 0 loaded (omega (arith, long)))
refused_is_named holds names files Strip r loaded long h = named_as names _ r.name (print_refused strip_output (file_at (map named_file files) 0) r h) (named_at holds names files 0 loaded (omega (arith, long)))
refused_is_named holds names files Canon r loaded long h = named_as names _ r.name (print_refused canon_output (file_at (map named_file files) 0) r h) (named_at holds names files 0 loaded (omega (arith, long)))
refused_is_named holds names files Cmp r loaded long h =
    elim (cmp_refused (file_at (map named_file files) 0) (file_at (map named_file files) 1) r h) [
      | inl first ↦ named_as names _ r.name first (named_at holds names files 0 loaded (omega (arith, long)))
      | inr second ↦ named_as names _ r.name second (named_at holds names files 1 loaded (omega (arith, long)))
    ]
refused_is_named holds names files Validate r loaded long h =
    named_as names _ r.name (read_refused (file_at (map named_file files) 0) (validate_output (file_at (map named_file files) 0).bytes) r h) (named_at holds names files 0 loaded (omega (arith, long)))
refused_is_named holds names files (Gen n) r loaded long h = absurd cc

-- ---- the reason of a stop

stop_reason : (holds : List ℕ → Option (List ℕ)) (asked : Asked) (files : List LoadedFile) (Faulty : List ℕ → Type 0) (stop : Stop) → AllZip (IsLoaded holds) asked.names files → length asked.names ≡ file_count asked.command
    → ((stop ≡ NoMemory) ⊎ SaysRefusal (output_of asked.command (map named_file files)) stop) → HasReason (asked_answer holds asked) Faulty asked.names stop
stop_reason holds asked files Faulty stop loaded long (inl none) = subst (HasReason (asked_answer holds asked) Faulty asked.names) (sym none) tt
stop_reason holds asked files Faulty stop loaded long (inr says) =
    let name = says.0 in
    let e = says.1 in
    let r : NamedRefusal = record { name = name.now; refusal = e } in
    let answer_is : IfSome (asked_answer holds asked) (λ a. a ≡ stopped (line_about name.now (refusal_text e)) statuses.Grammar) =
    subst (λ (m : Result Made NamedRefusal). IfSome (asked_answer holds asked) (λ a. a ≡ answered m)) says.4 (loaded_answer holds asked files loaded) in
    subst (HasReason (asked_answer holds asked) Faulty asked.names) (sym says.3)
    (refused_is_named holds asked.names files asked.command r loaded long says.4, says.2, answer_is)

-- what was made of loaded files is the answer
pub make_ok : (holds : List ℕ → Option (List ℕ)) (asked : Asked) (files : List LoadedFile) (result : Result Output Stop) → AllZip (IsLoaded holds) asked.names files
    → GivesOf made_of_output result (output_of asked.command (map named_file files)) → IfOk result (λ output. IfSome (asked_answer holds asked) (λ a. a ≡ made (made_of_output output)))
make_ok holds asked files (Ok output) loaded gives = made_answer holds asked files output loaded gives
make_ok holds asked files (Err stop) loaded gives = tt

pub make_reason : (holds : List ℕ → Option (List ℕ)) (asked : Asked) (files : List LoadedFile) (Faulty : List ℕ → Type 0) (result : Result Output Stop) → AllZip (IsLoaded holds) asked.names files
    → length asked.names ≡ file_count asked.command → GivesOf made_of_output result (output_of asked.command (map named_file files)) → IfErr result (HasReason (asked_answer holds asked) Faulty asked.names)
make_reason holds asked files Faulty (Ok output) loaded long gives = tt
make_reason holds asked files Faulty (Err stop) loaded long gives = stop_reason holds asked files Faulty stop loaded long gives

large_answer : (files : Option (List NamedFile)) (command : Command) (large : List ℕ) → IfSome files (λ f. too_large f ≡ Some large)
    → IfSome (option_map (answer_for command) files) (λ a. a ≡ stopped (too_large_line large) statuses.TooLarge)
large_answer None command large is = tt
large_answer (Some files) command large is = rw is refl

large_is_named : (holds : List ℕ → Option (List ℕ)) (names : List (List ℕ)) (large : List ℕ) → IsFirstTooLarge holds names large → Any (λ n. n ≡ large) names
large_is_named holds names large is =
    let some = first_is_named holds (λ n. (n ≡ large) × IfSome (holds n) (λ all. MOST_BYTES < length all)) names is in
    (some.0, some.1, some.2, some.3, some.4.0)

pub load_reason : (holds : List ℕ → Option (List ℕ)) (asked : Asked) (Faulty : List ℕ → Type 0) (stop : Stop) → HasLoadReasons holds Faulty asked.names stop → HasReason (asked_answer holds asked) Faulty asked.names stop
load_reason holds asked Faulty (Grammar name e) reason = absurd reason
load_reason holds asked Faulty (ReadFault name) reason = first_is_named holds (λ n. (n ≡ name.now) × Faulty n) asked.names reason
load_reason holds asked Faulty (TooLarge name) reason =
    (large_is_named holds asked.names name.now reason, large_answer (told holds asked.names) asked.command name.now (large_is_told holds asked.names name.now reason))
load_reason holds asked Faulty NoMemory reason = tt

-- ---- a file that could not be read

pub load_fault : (holds : List ℕ → Option (List ℕ)) (Faulty : List ℕ → Type 0) (names : List (List ℕ)) (stop : Stop) → HasLoadReasons holds Faulty names stop → IsReadFault stop → IsFirst holds Faulty names
load_fault holds Faulty names (Grammar name e) reason is = absurd is
load_fault holds Faulty names (ReadFault name) reason is = first_as holds (λ n. (n ≡ name.now) × Faulty n) Faulty names (λ n p. p.1) reason
load_fault holds Faulty names (TooLarge name) reason is = absurd is
load_fault holds Faulty names NoMemory reason is = absurd is
