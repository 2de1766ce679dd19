-- The output of `gen`: how large a generated module is, and what is wrong with it.
use Rattle.std.specs.Prelude.{ℕ, ◌+◌, ◌*◌, false, List, ◌++◌, length, codes, decimal}
use Rattle.beam_module.specs.Canonical.{canonical_file}
use Rattle.flow_rules.specs.Reports.{report_of}
use Rattle.module_gen.specs.Generated.{generated, generated_module}
use Rattle.validator.specs.Text.{report_text}
use Rattle.beam_cli.specs.Made.{Made}

-- the lines before the report: the name, and how many functions, instructions and bytes there are
abbrev pub summary : ℕ → ℕ → List ℕ
summary n size =
    codes "module gen\nfunctions " ++ decimal n
    ++ codes "\ninstructions " ++ decimal (16 * n + 1)
    ++ codes "\nbytes " ++ decimal size
    ++ codes "\n"

-- the module of n functions
unfoldable pub generated_output : ℕ → Made
generated_output n = record { text = summary n (length (canonical_file (generated n))) ++ report_text (generated_module n) (report_of (generated_module n)); found = false }
