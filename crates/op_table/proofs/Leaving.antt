-- What each exit of a plan finds.
use Rattle.std.proofs.Common.{◌≡◌, Bool, true, false, List, ◌∷◌, Some, Ok, refl, sym, ap, ◌∙◌, subst, inl, inr}
use Rattle.std.specs.List.{list_all, slice_get}
use Rattle.op_table.specs.declared.role.Role.{Role}
use Rattle.op_table.specs.declared.role.Role.TheVariants as roles
use Rattle.op_table.specs.declared.plans.Plan.{Plan}
use Rattle.op_table.specs.declared.form.Form.{Form}
use Rattle.op_table.specs.declared.form.Form.TheVariants as forms
use Rattle.op_table.specs.declared.step.Way.{Way}
use Rattle.op_table.specs.declared.step.Way.TheVariants as ways
use Rattle.op_table.specs.Instruction.{Instruction}
use Rattle.op_table.specs.Table.{table, roles_in, roles_of}
use Rattle.op_table.specs.Layouts.{layout_of}
use Rattle.op_table.specs.Planned.{planned, operand_at, label_in}
use Rattle.op_table.specs.Planning.{called, plan_of}
use Rattle.op_table.specs.Rules.{CallsLocal, LeavesBy}
use Rattle.op_table.proofs.Collected.{passes, layout_passes}
use Rattle.op_table.proofs.Of_rows.{is_plan}

-- ---- the roles of calls

begins_call : List Role → Bool
begins_call (roles.R ∷ roles.E ∷ rs) = true
begins_call _ = false

calls_fit : Way → List Role → Bool
calls_fit (ways.Enter k) rs = begins_call rs
calls_fit (ways.TailLocal k) rs = begins_call rs
calls_fit _ rs = true

all_calls_fit : list_all (passes (λ rs l. calls_fit l.exit rs)) table ≡ true
unfolding begins_call calls_fit table
all_calls_fit = refl

begin_call : (rs : List Role) → begins_call rs ≡ true → (slice_get rs 0 ≡ Some roles.R) × (slice_get rs 1 ≡ Some roles.E)
unfolding begins_call
begin_call (roles.R ∷ roles.E ∷ rs) begins = (refl, refl)
begin_call _ begins = absurd cc

calls : (i : Instruction) (rs : List Role) → begins_call rs ≡ true → roles_of i.op ≡ rs → CallsLocal i (label_in (operand_at i.operands 2))
calls i rs begins same =
    let parts = begin_call rs begins in
    record { arity = ap (λ (qs : List Role). slice_get qs 0) same ∙ parts.0; entry = ap (λ (qs : List Role). slice_get qs 1) same ∙ parts.1; names = refl }

-- ---- the exits, form by form

leaves : (i : Instruction) (rs : List Role) (f : Form) → calls_fit (layout_of f).exit rs ≡ true → roles_of i.op ≡ rs → LeavesBy i (planned (layout_of f) rs i.operands).exit (planned (layout_of f) rs i.operands)
unfolding calls_fit
leaves i rs forms.Call fit same = record { calls = calls i rs fit same; before = refl; after = refl }
leaves i rs forms.CallLast fit same = record { calls = calls i rs fit same; replaces = record { leave = _; leaves = inr (_, refl); before = refl; after = refl } }
leaves i rs forms.CallOnly fit same = record { calls = calls i rs fit same; replaces = record { leave = _; leaves = inl refl; before = refl; after = refl } }
leaves i rs forms.CallExtLast fit same = record { arguments = _; replaces = record { leave = _; leaves = inr (_, refl); before = refl; after = refl } }
leaves i rs forms.CallExtOnly fit same = record { arguments = _; replaces = record { leave = _; leaves = inl refl; before = refl; after = refl } }
leaves i rs forms.ApplyLast fit same = record { arguments = _; replaces = record { leave = _; leaves = inr (_, refl); before = refl; after = refl } }
leaves i rs forms.Return fit same = record { before = refl; after = refl }
leaves i rs forms.Stop fit same = refl
leaves i rs forms.FuncInfo fit same = refl
leaves i rs forms.NeverReturns fit same = refl
leaves i rs _ fit same = tt

pub plans_leave : (i : Instruction) (ends : Bool) (p : Plan) → plan_of i ends ≡ Ok p → LeavesBy i p.exit p
plans_leave i ends p is =
    let of_row = is_plan i ends p is in
    let fit = layout_passes (λ rs l. calls_fit l.exit rs) all_calls_fit i.op of_row.row of_row.found ends in
    let left = leaves i of_row.row.roles (called of_row.row.form ends) fit (ap roles_in of_row.found) in
    subst (λ (x : Plan). LeavesBy i x.exit x) (sym of_row.planned) left
