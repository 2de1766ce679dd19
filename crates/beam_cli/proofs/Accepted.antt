-- A file that `validate` accepts is a module that never gets stuck.
use Rattle.std.proofs.Common.{◌≡◌, ◌∙◌, ℕ, Bool, true, false, List, [], ◌∷◌, codes, Option, Some, Result, Ok, Err, refl, sym, ap, subst, inl, inr}
use Rattle.std.specs.Prelude.{IfSome, length, nat_lt}
use Rattle.std.proofs.lemmas.Bool.{cases_Bool}
use Rattle.bk_codec.proofs.Steps.{bind_ok, ok_is, refused_as_ok}
use Rattle.bk_codec.specs.Exact.{IsExact}
use Rattle.bk_codec.specs.Spelling.{IsBytes}
use Rattle.bk_port.specs.declared.reading.TheConstants.{MOST_BYTES}
use Rattle.func_split.specs.Functions.{IsSplit}
use Rattle.beam_module.specs.Module.{IsModule, ModuleValue}
use Rattle.beam_module.specs.Opening.{module_of}
use Rattle.code_faults.specs.declared.fault.Fault.{Fault}
use Rattle.flow_rules.specs.Reporting.{IsReport}
use Rattle.flow_rules.specs.Reports.{report_of}
use Rattle.flow_rules.specs.Runs.{NeverStuck}
use Rattle.beam_cli.specs.declared.command.Command.TheVariants.{Validate}
use Rattle.beam_cli.specs.declared.refusal.Refusal.{Refusal}
use Rattle.beam_cli.specs.declared.status.Status.{Status}
use Rattle.beam_cli.specs.declared.status.Status.TheVariants as statuses
use Rattle.beam_cli.specs.Accepting.{Accepts, IsSafe}
use Rattle.beam_cli.specs.Answer.{Answer, answer, answered, made, stopped}
use Rattle.beam_cli.specs.Files.{NamedFile}
use Rattle.beam_cli.specs.Made.{Made, read_of}
use Rattle.beam_cli.specs.Message.{too_large_line, usage_line}
use Rattle.beam_cli.specs.Needs.{module_of_file}
use Rattle.beam_cli.specs.Outcome.{IsStatus}
use Rattle.beam_cli.specs.Reasons.{module_refusal}
use Rattle.beam_cli.specs.Validating.{has_faults, judged, validate_output}
use Rattle.beam_cli.specs.Words.{command_by, is_name}

-- ---- modules

split_of_module : (m : ModuleValue) (bytes : List ℕ) → IsModule m bytes → IsSplit m.code.labels m.code.instrs m.code.functions
split_of_module m bytes is =
    let code = is.functions in
    subst (λ (labels : ℕ). IsSplit labels m.code.instrs m.code.functions) (sym code.labels_are)
    (subst (λ instrs. IsSplit is.code.labels instrs m.code.functions) (sym code.instrs_are) code.split)

none_found : (report : List Fault) → has_faults report ≡ false → report ≡ []
none_found [] is = refl
none_found (fault ∷ report) is = absurd cc

module _ (have : (m : ModuleValue) (bytes : List ℕ) → IsModule m bytes → IsReport m (report_of m))
    (safe : (m : ModuleValue) → IsSplit m.code.labels m.code.instrs m.code.functions → IsReport m [] → NeverStuck m)
    (modules : IsExact module_of IsModule) where
  module_is_safe : (m : ModuleValue) (bytes : List ℕ) → IsModule m bytes → report_of m ≡ [] → NeverStuck m
  module_is_safe m bytes is none = safe m (split_of_module m bytes is) (subst (IsReport m) none (have m bytes is))

  pub file_is_safe : (bytes : List ℕ) (out : Made) → IsBytes bytes → validate_output bytes ≡ Ok out → out.found ≡ false → IsSafe bytes
  file_is_safe bytes out fits is none =
      let read = bind_ok (module_of_file bytes) (λ m. Ok (judged m (report_of m))) out is in
      let m = read.0 in
      let found = refused_as_ok module_refusal (module_of bytes) m read.1 in
      let opened = (modules.accepted bytes m fits).0 found in
      let same = ok_is {E = Refusal} (judged m (report_of m)) out read.2 in
      let empty = none_found (report_of m) (ap (λ (o : Made). o.found) same ∙ none) in
      record {
        module_is = m;
        opened = opened;
        never_stuck = λ other is_other.
            let again = (modules.accepted bytes other fits).1 is_other in
            let one : m ≡ other = cc in
            subst NeverStuck one (module_is_safe m bytes opened empty);
      }

-- ---- answers

-- the status is 0 only where nothing was found
done_by : (file : NamedFile) (r : Result Made Refusal) → (answered (read_of file r)).status ≡ statuses.Done → (out : Made) × (r ≡ Ok out) × (out.found ≡ false)
done_by file (Err e) done = absurd cc
done_by file (Ok out) done = (out, refl, nothing out.found refl done) where
  nothing : (found : Bool) → out.found ≡ found → (made (record { text = out.text; found = found })).status ≡ statuses.Done → out.found ≡ false
  nothing true is wrong = absurd cc
  nothing false is right = is

validate_by : command_by (codes "validate") ≡ Some Validate
unfolding command_by
validate_by = refl

-- the word may name no file, and the file may be too large
answers_done : (holds : List ℕ → Option (List ℕ)) (name bytes : List ℕ) → holds name ≡ Some bytes → IfSome (answer holds (codes "validate" ∷ name ∷ [])) (λ (a : Answer). a.status ≡ statuses.Done)
    → (out : Made) × (validate_output bytes ≡ Ok out) × (out.found ≡ false)
answers_done holds name bytes held done =
    let word = codes "validate" in
    let Done = λ (o : Option Answer). IfSome o (λ (a : Answer). a.status ≡ statuses.Done) in
    elim (cases_Bool (is_name name)) [
      | inl named ↦ elim (cases_Bool (nat_lt MOST_BYTES (length bytes))) [
        | inl large ↦
            let is : answer holds (word ∷ name ∷ []) ≡ Some (stopped (too_large_line name) statuses.TooLarge) = rw (validate_by, named, held, large) refl in
            let wrong : statuses.TooLarge ≡ statuses.Done = subst Done is done in
            absurd cc
        | inr small ↦
            let file : NamedFile = record { name = name; bytes = bytes } in
            let is : answer holds (word ∷ name ∷ []) ≡ Some (answered (read_of file (validate_output bytes))) = rw (validate_by, named, held, small) refl in
            done_by file (validate_output bytes) (subst Done is done)
      ]
      | inr none ↦
          let is : answer holds (word ∷ name ∷ []) ≡ Some (stopped usage_line statuses.Usage) = rw (validate_by, none) refl in
          let wrong : statuses.Usage ≡ statuses.Done = subst Done is done in
          absurd cc
    ]

pub accepts : ((bytes : List ℕ) (out : Made) → IsBytes bytes → validate_output bytes ≡ Ok out → out.found ≡ false → IsSafe bytes)
    → (holds : List ℕ → Option (List ℕ)) (words : List (List ℕ)) (status : Status) → IsStatus status (answer holds words) → Accepts holds words status
accepts law holds words status says name bytes words_are held fits done =
    let at : IfSome (answer holds words) (λ (a : Answer). a.status ≡ statuses.Done) = subst (λ (s : Status). IsStatus s (answer holds words)) done says in
    let here = subst (λ (w : List (List ℕ)). IfSome (answer holds w) (λ (a : Answer). a.status ≡ statuses.Done)) words_are at in
    let found = answers_done holds name bytes held here in
    law bytes found.0 fits found.1 found.2
