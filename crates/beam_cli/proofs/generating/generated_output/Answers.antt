use Rattle.std.proofs.Common.{◌≡◌, ◌∙◌, ℕ, false, List, ◌++◌, length, ap}
use Rattle.beam_module.specs.Canonical.{canonical_file}
use Rattle.beam_module.specs.Module.{ModuleValue}
use Rattle.flow_rules.specs.Reports.{report_of}
use Rattle.module_gen.specs.Generated.{generated, generated_module}
use Rattle.validator.specs.Text.{report_text}
use Rattle.beam_cli.specs.Generating.{generated_output, summary}
use Rattle.beam_cli.specs.Made.{Made}
use Rattle.beam_cli.proofs.generating.generated_output.Goals as goal

pub returns : goal.returns
unfolding generated_output
returns c =
    let n : ℕ = c.args.functions in
    let lines : List ℕ = report_text (generated_module n) (report_of (generated_module n)) in
    let size : c.len.result ≡ length (canonical_file (generated n)) = c.len.ensures ∙ ap length (c.in_ok-file.ensures ∙ ap canonical_file c.in_ok-value.ensures.value) in
    let report : c.in_ok-report.report.text.items ≡ lines = ap (λ (o : Made). o.text) c.in_ok-report.ensures ∙ ap (λ (m : ModuleValue). report_text m (report_of m)) c.in_ok-module.ensures in
    let head : c.put_summary.new.out.items ≡ summary n (length (canonical_file (generated n))) =
    c.in_ok-put_summary.ensures ∙ ap (λ (t : List ℕ). t ++ summary n c.len.result) c.new-text.ensures ∙ ap (summary n) size in
    let whole = c.in_ok-extend.ensures.ok ∙ ap (λ (t : List ℕ). c.put_summary.new.out.items ++ t) (c.as_slice-2.ensures ∙ report) ∙ ap (λ (t : List ℕ). t ++ lines) head in
    ap (λ (t : List ℕ). record { text = t; found = false }) whole
