use Rattle.std.proofs.Common.{◌≡◌, ◌∙◌, ◌↔◌, ℕ, Option, Some, None, List, length, sym, ap}
use Rattle.std.specs.Option.{unwrap_or}
use Rattle.op_table.specs.Instruction.{Instruction}
use Rattle.func_split.specs.Marks.{marks_of, IsLabelAt}
use Rattle.flow_rules.specs.Body.{place_in}
use Rattle.flow_rules.proofs.Places.{place_where, place_nowhere, as_many_marks}
use Rattle.flow_rules.proofs.fn_flow.FnFlow.target.Goals as goal

at : (instrs : List Instruction) (label : ℕ) (found : Option ℕ) → ((place : ℕ) → (found ≡ Some place) ↔ IsLabelAt (marks_of instrs) place label) → unwrap_or found (length instrs) ≡ place_in (marks_of instrs) label
at instrs label (Some place) stands = sym (place_where (marks_of instrs) label place stands)
at instrs label None stands = sym (place_nowhere (marks_of instrs) label stands ∙ as_many_marks instrs)

pub returns : goal.returns
returns c =
    c.unwrap_or.ensures
    ∙ ap (λ (instrs : List Instruction). unwrap_or c.place_of.result (length instrs)) c.instrs-behind.ensures
    ∙ at c.args.self.now.function.instrs c.args.label c.place_of.result c.place_of.ensures
