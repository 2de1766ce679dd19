use Rattle.std.proofs.Common.{◌≡◌, ◌↔◌, ℕ, Some, subst}
use Rattle.func_split.specs.Functions.{IsEntry, SplitValue}
use Rattle.func_split.specs.Marks.{marks_of}
use Rattle.func_split.proofs.Methods.{entry_answers}
use Rattle.func_split.proofs.Entering.{no_answer, no_place, no_before, no_instr, some_instr}
use Rattle.func_split.proofs.split_code.SplitCode.entry_of.Goals as goal

pub returns-in_err-place : goal.returns-in_err-place
returns-in_err-place c =
    let inside = c.self.inside in
    let label = c.args.label in
    let r = c.from_residual.result in
    let no = no_place (marks_of inside.instrs) inside.places label c.in_err-place.ensures.value in
    subst (λ (s : SplitValue). (arity : ℕ) → (r ≡ Some arity) ↔ IsEntry s.functions label arity) c.self.view_is
    (entry_answers c.splitting_is_exact.ensures.accepted inside.labels inside.instrs inside.extents.items inside.places c.self.invariant label r (no_answer (marks_of inside.instrs) inside.places label r c.from_residual.ensures no))

pub returns-in_err-checked_sub : goal.returns-in_err-checked_sub
returns-in_err-checked_sub c =
    let inside = c.self.inside in
    let label = c.args.label in
    let r = c.from_residual-in_err-checked_sub.result in
    let no = no_before (marks_of inside.instrs) inside.places label c.in_ok-place.place.now c.in_ok-place.ensures.value c.in_err-checked_sub.ensures in
    subst (λ (s : SplitValue). (arity : ℕ) → (r ≡ Some arity) ↔ IsEntry s.functions label arity) c.self.view_is
    (entry_answers c.splitting_is_exact.ensures.accepted inside.labels inside.instrs inside.extents.items inside.places c.self.invariant label r (no_answer (marks_of inside.instrs) inside.places label r c.from_residual-in_err-checked_sub.ensures no))

pub returns-in_err-before : goal.returns-in_err-before
returns-in_err-before c =
    let inside = c.self.inside in
    let label = c.args.label in
    let r = c.from_residual-in_err-before.result in
    let no = no_instr inside.instrs inside.places label c.in_ok-place.place.now c.in_ok-checked_sub.field-0 c.in_ok-place.ensures.value c.in_ok-checked_sub.ensures.1 c.in_err-before.ensures in
    subst (λ (s : SplitValue). (arity : ℕ) → (r ≡ Some arity) ↔ IsEntry s.functions label arity) c.self.view_is
    (entry_answers c.splitting_is_exact.ensures.accepted inside.labels inside.instrs inside.extents.items inside.places c.self.invariant label r (no_answer (marks_of inside.instrs) inside.places label r c.from_residual-in_err-before.ensures no))

pub returns : goal.returns
returns c =
    let inside = c.self.inside in
    let label = c.args.label in
    let r = c.arity_in.result in
    let answers = some_instr inside.instrs inside.places label c.in_ok-place.place.now c.in_ok-checked_sub.field-0 c.in_ok-before.before.now c.of.result r c.in_ok-place.ensures.value c.in_ok-checked_sub.ensures.0 c.in_ok-checked_sub.ensures.1 c.in_ok-before.ensures c.of.ensures c.arity_in.ensures in
    subst (λ (s : SplitValue). (arity : ℕ) → (r ≡ Some arity) ↔ IsEntry s.functions label arity) c.self.view_is
    (entry_answers c.splitting_is_exact.ensures.accepted inside.labels inside.instrs inside.extents.items inside.places c.self.invariant label r answers)
