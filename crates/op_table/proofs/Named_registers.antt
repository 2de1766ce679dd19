-- A plan writes no registers but x0 and those that its operands name.
use Rattle.std.proofs.Common.{◌≡◌, ℕ, zero, suc, ◌-◌, Bool, true, false, ◌&&◌, List, [], ◌∷◌, ◌++◌, Option, Some, None, Ok, refl, sym, ap, ◌∙◌}
use Rattle.std.specs.List.{list_all, slice_get, flat_map}
use Rattle.std.specs.Option.{option_to_list}
use Rattle.std.proofs.lemmas.Bool.{and_parts}
use Rattle.compact_term.specs.declared.operand.Reg.{Reg}
use Rattle.compact_term.specs.declared.operand.Reg.TheVariants as regs
use Rattle.compact_term.specs.declared.operand.Plain.{Plain}
use Rattle.compact_term.specs.declared.operand.Operand.{Operand}
use Rattle.compact_term.specs.declared.operand.Operand.TheVariants as operands
use Rattle.op_table.specs.declared.role.Role.{Role}
use Rattle.op_table.specs.declared.role.Role.TheVariants as roles
use Rattle.op_table.specs.declared.action.Action.{Action}
use Rattle.op_table.specs.declared.action.Action.TheVariants as acts
use Rattle.op_table.specs.declared.plans.Plan.{Plan}
use Rattle.op_table.specs.declared.step.Step.{Step}
use Rattle.op_table.specs.declared.step.Step.TheVariants as steps
use Rattle.op_table.specs.Instruction.{Instruction}
use Rattle.op_table.specs.Table.{table, roles_in, roles_of}
use Rattle.op_table.specs.Layouts.{Layout, layout_of}
use Rattle.op_table.specs.Planned.{operand_at, members_in, values, register_of, register_or_x0, register_in, register_write, register_writes, writes_of, actions}
use Rattle.op_table.specs.Planning.{called, plan_of}
use Rattle.op_table.specs.Rules.{registers, registers_of, named_of, named, written_of, written}
use Rattle.op_table.proofs.Small.{and_from}
use Rattle.op_table.proofs.Collected.{passes, layout_passes, all_append, append_parts, all_collected, reads_none, key_reads_none}
use Rattle.op_table.proofs.Of_rows.{is_plan}

-- ---- places of registers

names : Option Role → Bool
names None = false
names (Some roles.Any) = false
names (Some roles.Lp) = false
names (Some _) = true

writes_x0 : Action → Bool
writes_x0 (acts.Write (regs.X zero)) = true
writes_x0 (acts.Write reg) = false
writes_x0 (acts.Copy source reg) = false
writes_x0 (acts.Swap a b) = false
writes_x0 _ = true

step_names : List Role → Step → Bool
step_names rs (steps.Always action) = writes_x0 action
step_names rs (steps.Write k) = names (slice_get rs (k - 1))
step_names rs (steps.WriteValues k) = names (slice_get rs (k - 1))
step_names rs (steps.Copy j k) = names (slice_get rs (k - 1))
step_names rs (steps.Swap j k) = names (slice_get rs (j - 1)) && names (slice_get rs (k - 1))
step_names rs _ = true

layout_names : List Role → Layout → Bool
layout_names rs l = list_all (step_names rs) l.before && list_all (step_names rs) l.after

all_name : list_all (passes layout_names) table ≡ true
unfolding names writes_x0 step_names layout_names table
all_name = refl

-- ---- registers that pass a test

registers_in : Option Operand → List Reg
registers_in (Some o) = registers_of o
registers_in None = []

named_here : (q : Reg → Bool) (role : Role) (o : Operand) → names (Some role) ≡ true → list_all q (named_of role o) ≡ true → list_all q (registers_of o) ≡ true
unfolding names
named_here q roles.Any o is kept = absurd cc
named_here q roles.Lp o is kept = absurd cc
named_here q _ o is kept = kept

named_at : (q : Reg → Bool) (j : ℕ) (rs : List Role) (os : List Operand) → names (slice_get rs j) ≡ true → list_all q (named rs os) ≡ true → list_all q (registers_in (slice_get os j)) ≡ true
unfolding names registers_in
named_at q j [] os is kept = absurd cc
named_at q j (r ∷ rs) [] is kept = refl
named_at q zero (r ∷ rs) (o ∷ os) is kept = named_here q r o is (append_parts q (named_of r o) (named rs os) kept).0
named_at q (suc j) (r ∷ rs) (o ∷ os) is kept = named_at q j rs os is (append_parts q (named_of r o) (named rs os) kept).1

or_x0 : (q : Reg → Bool) (reg : Option Reg) → q (regs.X 0) ≡ true → list_all q (option_to_list reg ++ []) ≡ true → q (register_or_x0 reg) ≡ true
or_x0 q None x0 kept = x0
or_x0 q (Some reg) x0 kept = (and_parts _ _ kept).0

register_kept : (q : Reg → Bool) (o : Option Operand) → q (regs.X 0) ≡ true → list_all q (registers_in o) ≡ true → q (register_in o) ≡ true
unfolding registers_in
register_kept q (Some (operands.One p)) x0 kept = or_x0 q (register_of p) x0 kept
register_kept q _ x0 kept = x0

one_more : (reg : Option Reg) (rest : List Action) (others : List Reg) → written rest ≡ others → written (register_write reg ++ rest) ≡ option_to_list reg ++ others
one_more None rest others is = is
one_more (Some reg) rest others is = ap (λ (rs : List Reg). reg ∷ rs) is

written_registers : (ps : List Plain) → written (register_writes ps) ≡ registers ps
written_registers [] = refl
written_registers (p ∷ ps) = one_more (register_of p) (register_writes ps) (registers ps) (written_registers ps)

values_kept : (q : Reg → Bool) (ps : List Plain) → list_all q (registers ps) ≡ true → list_all q (registers (values ps)) ≡ true
values_kept q [] kept = refl
values_kept q (p ∷ []) kept = refl
values_kept q (p ∷ r ∷ ps) kept =
    let behind = (append_parts q (option_to_list (register_of p)) (registers (r ∷ ps)) kept).1 in
    let parts = append_parts q (option_to_list (register_of r)) (registers ps) behind in
    all_append q (option_to_list (register_of r)) (registers (values ps)) parts.0 (values_kept q ps parts.1)

members_kept : (q : Reg → Bool) (o : Option Operand) → list_all q (registers_in o) ≡ true → list_all q (registers (members_in o)) ≡ true
unfolding registers_in
members_kept q (Some (operands.List ps)) kept = kept
members_kept q _ kept = refl

writes_kept : (q : Reg → Bool) (o : Option Operand) → q (regs.X 0) ≡ true → list_all q (registers_in o) ≡ true → list_all q (written (writes_of o)) ≡ true
unfolding registers_in
writes_kept q (Some (operands.One p)) x0 kept = and_from (or_x0 q (register_of p) x0 kept) refl
writes_kept q (Some (operands.List ps)) x0 kept = ap (list_all q) (written_registers ps) ∙ kept
writes_kept q _ x0 kept = and_from x0 refl

-- ---- steps and plans

always_kept : (q : Reg → Bool) (a : Action) → q (regs.X 0) ≡ true → writes_x0 a ≡ true → list_all q (written (a ∷ [])) ≡ true
unfolding writes_x0
always_kept q (acts.Write (regs.X zero)) x0 is = and_from x0 refl
always_kept q (acts.Write (regs.X (suc n))) x0 is = absurd cc
always_kept q (acts.Write (regs.Y n)) x0 is = absurd cc
always_kept q (acts.Copy source reg) x0 is = absurd cc
always_kept q (acts.Swap a b) x0 is = absurd cc
always_kept q _ x0 is = refl

-- the operands of a row whose registers pass a test, as x0 does
record Given (q : Reg → Bool) (rs : List Role) (os : List Operand) : Type 0 where
  x0 : q (regs.X 0) ≡ true
  kept : list_all q (named rs os) ≡ true

step_kept : (q : Reg → Bool) (rs : List Role) (os : List Operand) (s : Step) → Given q rs os → step_names rs s ≡ true → list_all q (written (actions rs os s)) ≡ true
unfolding step_names
step_kept q rs os (steps.Always action) given is = always_kept q action given.x0 is
step_kept q rs os steps.Reads given is = ap (list_all q) (reads_none written_of (λ s. refl) rs os)
step_kept q rs os (steps.ReadKeys k) given is = ap (list_all q) (key_reads_none written_of (λ s. refl) (members_in (operand_at os k)))
step_kept q rs os (steps.Write k) given is = writes_kept q (operand_at os k) given.x0 (named_at q (k - 1) rs os is given.kept)
step_kept q rs os (steps.WriteValues k) given is =
    let members = members_in (operand_at os k) in
    ap (list_all q) (written_registers (values members)) ∙ values_kept q members (members_kept q (operand_at os k) (named_at q (k - 1) rs os is given.kept))
step_kept q rs os (steps.Copy j k) given is = and_from (register_kept q (operand_at os k) given.x0 (named_at q (k - 1) rs os is given.kept)) refl
step_kept q rs os (steps.Swap j k) given is =
    let parts = and_parts _ _ is in
    let first = register_kept q (operand_at os j) given.x0 (named_at q (j - 1) rs os parts.0 given.kept) in
    let second = register_kept q (operand_at os k) given.x0 (named_at q (k - 1) rs os parts.1 given.kept) in
    and_from first (and_from second refl)
step_kept q rs os _ given is = refl

steps_kept : (q : Reg → Bool) (rs : List Role) (os : List Operand) (list : List Step) → Given q rs os → list_all (step_names rs) list ≡ true → list_all q (written (flat_map (actions rs os) list)) ≡ true
steps_kept q rs os list given is = all_collected q written_of (actions rs os) (step_names rs) (λ s fits. step_kept q rs os s given fits) list is

pub plans_write : (q : Reg → Bool) (i : Instruction) (ends : Bool) (p : Plan) → plan_of i ends ≡ Ok p → q (regs.X 0) ≡ true → list_all q (named (roles_of i.op) i.operands) ≡ true → list_all q (written p.before ++ written p.after) ≡ true
unfolding layout_names
plans_write q i ends p is x0 kept =
    let of_row = is_plan i ends p is in
    let r = of_row.row in
    let own : roles_of i.op ≡ r.roles = ap roles_in of_row.found in
    let given : Given q r.roles i.operands = record { x0 = x0; kept = ap (λ (rs : List Role). list_all q (named rs i.operands)) (sym own) ∙ kept } in
    let parts = and_parts _ _ (layout_passes layout_names all_name i.op r of_row.found ends) in
    let l = layout_of (called r.form ends) in
    ap (λ (x : Plan). list_all q (written x.before ++ written x.after)) of_row.planned ∙ all_append q _ _ (steps_kept q r.roles i.operands l.before given parts.0) (steps_kept q r.roles i.operands l.after given parts.1)
