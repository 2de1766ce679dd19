-- The output of `validate`: what is wrong with the module that a file is.
use Rattle.std.specs.Prelude.{ℕ, Bool, true, false, List, [], Result, Ok}
use Rattle.bk_codec.specs.Reading.{◌>>=◌}
use Rattle.beam_module.specs.Module.{ModuleValue}
use Rattle.code_faults.specs.declared.fault.Fault.{Fault}
use Rattle.flow_rules.specs.Reports.{report_of}
use Rattle.validator.specs.Text.{report_text}
use Rattle.beam_cli.specs.declared.refusal.Refusal.{Refusal}
use Rattle.beam_cli.specs.Made.{Made}
use Rattle.beam_cli.specs.Needs.{module_of_file}

-- whether anything is wrong
abbrev pub has_faults : List Fault → Bool
has_faults [] = false
has_faults report = true

abbrev pub judged : ModuleValue → List Fault → Made
judged m report = record { text = report_text m report; found = has_faults report }

abbrev pub validate_output : List ℕ → Result Made Refusal
validate_output bytes = module_of_file bytes >>= λ m. Ok (judged m (report_of m))
