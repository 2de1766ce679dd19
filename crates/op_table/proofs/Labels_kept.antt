-- A plan names no labels but those of its operands.
use Rattle.std.proofs.Common.{◌≡◌, ℕ, zero, suc, ◌+◌, ◌-◌, ◌==◌, Bool, true, false, ◌&&◌, List, [], ◌∷◌, length, Option, Some, None, Ok, refl, sym, ap, ◌∙◌, arith, inl, inr}
use Rattle.std.specs.List.{list_all, slice_get, flat_map}
use Rattle.std.proofs.lemmas.Bool.{and_parts, cases_Bool}
use Rattle.std.specs.Option.{option_map}
use Rattle.compact_term.specs.declared.operand.Plain.TheVariants as plains
use Rattle.compact_term.specs.declared.operand.Operand.{Operand}
use Rattle.compact_term.specs.declared.operand.Operand.TheVariants as operands
use Rattle.op_table.specs.declared.role.Role.{Role}
use Rattle.op_table.specs.declared.role.Role.TheVariants as roles
use Rattle.op_table.specs.declared.plans.Plan.{Plan}
use Rattle.op_table.specs.declared.step.Step.{Step}
use Rattle.op_table.specs.declared.step.Step.TheVariants as steps
use Rattle.op_table.specs.declared.step.Way.{Way}
use Rattle.op_table.specs.declared.step.Way.TheVariants as ways
use Rattle.op_table.specs.Instruction.{Instruction, IsInstruction}
use Rattle.op_table.specs.Roles.{has_shape, misshapen, misshapen_from}
use Rattle.op_table.specs.Table.{Row, table, arity_of, roles_in, roles_of}
use Rattle.op_table.specs.Layouts.{Layout, layout_of}
use Rattle.op_table.specs.Planned.{planned, operand_at, label_in, actions, fails_in, fails_at, labels_in, exit_of}
use Rattle.op_table.specs.Planning.{called, plan_of}
use Rattle.op_table.specs.Rules.{own_labels_of, own_labels, exit_labels, tag_labels_of, tag_labels, plan_labels}
use Rattle.op_table.proofs.Named.{typed_roles}
use Rattle.op_table.proofs.Small.{shaped_parts}
use Rattle.op_table.proofs.Collected.{passes, layout_passes, all_append, append_parts, all_collected}
use Rattle.op_table.proofs.Tagless.{no_tag, untagged, step_tagless}
use Rattle.op_table.proofs.Of_rows.{is_plan}

-- ---- places of labels

-- the roles whose operands are a label; a label or none; a label or labels
is_label_role : Role → Bool
is_label_role roles.F = true
is_label_role _ = false

is_fail_role : Role → Bool
is_fail_role roles.F = true
is_fail_role roles.FOr0 = true
is_fail_role _ = false

is_exit_role : Role → Bool
is_exit_role roles.F = true
is_exit_role roles.Lp = true
is_exit_role _ = false

-- the role at a place is of these
at_role : (Role → Bool) → Option Role → Bool
at_role these (Some role) = these role
at_role these None = false

fails_named : List Role → Option ℕ → Bool
fails_named rs None = true
fails_named rs (Some k) = at_role is_fail_role (slice_get rs (k - 1))

exit_named : List Role → Way → Bool
exit_named rs (ways.Labels k) = at_role is_exit_role (slice_get rs (k - 1))
exit_named rs _ = true

tag_named : List Role → Step → Bool
tag_named rs (steps.Tag j k kind) = at_role is_label_role (slice_get rs (k - 1))
tag_named rs s = untagged s

layout_named : List Role → Layout → Bool
layout_named rs l = fails_named rs l.fails && exit_named rs l.exit && list_all (tag_named rs) l.before && list_all (tag_named rs) l.after

all_named : list_all (passes layout_named) table ≡ true
unfolding is_label_role is_fail_role is_exit_role at_role fails_named exit_named no_tag untagged tag_named layout_named table
all_named = refl

-- ---- where it fails, and where it goes on

-- what an operand of these roles says passes the test where its own labels do
abbrev Says : (ℕ → Bool) → (Role → Bool) → (Option Operand → List ℕ) → Type 0
Says q these says = (role : Role) (o : Operand) → these role ≡ true → has_shape role o ≡ true → list_all q (own_labels_of role o) ≡ true → list_all q (says (Some o)) ≡ true

fails_of : (q : ℕ → Bool) → Says q is_fail_role fails_in
unfolding is_fail_role
fails_of q roles.F (operands.One (plains.F n)) named shaped kept =
    elim (cases_Bool (n == 0)) [
      | inl is ↦ rw is refl
      | inr not ↦ rw not kept
    ]
fails_of q roles.F o named shaped kept = refl
fails_of q roles.FOr0 o named shaped kept = kept
fails_of q _ o named shaped kept = absurd cc

labels_of : (q : ℕ → Bool) → Says q is_exit_role labels_in
unfolding is_exit_role
labels_of q roles.F (operands.One p) named shaped kept = kept
labels_of q roles.F _ named shaped kept = absurd cc
labels_of q roles.Lp (operands.List ps) named shaped kept = kept
labels_of q roles.Lp _ named shaped kept = absurd cc
labels_of q _ o named shaped kept = absurd cc

label_of : (q : ℕ → Bool) → Says q is_label_role (λ o. label_in o ∷ [])
unfolding is_label_role
label_of q roles.F o named shaped kept = kept
label_of q _ o named shaped kept = absurd cc

-- the operands of a row whose labels pass a test
record Given (q : ℕ → Bool) (rs : List Role) (os : List Operand) : Type 0 where
  shaped : misshapen rs os ≡ None
  same : length rs ≡ length os
  kept : list_all q (own_labels rs os) ≡ true

said_from : (q : ℕ → Bool) (these : Role → Bool) (says : Option Operand → List ℕ) → Says q these says → (k j : ℕ) (rs : List Role) (os : List Operand) → misshapen_from k rs os ≡ None → length rs ≡ length os → list_all q (own_labels rs os) ≡ true → at_role these (slice_get rs j) ≡ true → list_all q (says (slice_get os j)) ≡ true
unfolding at_role
said_from q these says each k j [] os shaped same kept is = absurd cc
said_from q these says each k j (r ∷ rs) [] shaped same kept is = absurd (omega arith)
said_from q these says each k zero (r ∷ rs) (o ∷ os) shaped same kept is = each r o is (shaped_parts k r rs o os shaped).0 (append_parts q (own_labels_of r o) (own_labels rs os) kept).0
said_from q these says each k (suc j) (r ∷ rs) (o ∷ os) shaped same kept is = said_from q these says each (k + 1) j rs os (shaped_parts k r rs o os shaped).1 (omega arith) (append_parts q (own_labels_of r o) (own_labels rs os) kept).1 is

said_at : (q : ℕ → Bool) (these : Role → Bool) (says : Option Operand → List ℕ) → Says q these says → (k : ℕ) (rs : List Role) (os : List Operand) → Given q rs os → at_role these (slice_get rs (k - 1)) ≡ true → list_all q (says (operand_at os k)) ≡ true
said_at q these says each k rs os given is = said_from q these says each 1 (k - 1) rs os given.shaped given.same given.kept is

fails_kept : (q : ℕ → Bool) (rs : List Role) (os : List Operand) (place : Option ℕ) → Given q rs os → fails_named rs place ≡ true → list_all q (fails_at os place) ≡ true
unfolding fails_named
fails_kept q rs os None given named = refl
fails_kept q rs os (Some k) given named = said_at q is_fail_role fails_in (fails_of q) k rs os given named

exit_kept : (q : ℕ → Bool) (rs : List Role) (os : List Operand) (way : Way) → Given q rs os → exit_named rs way ≡ true → list_all q (exit_labels (exit_of os way)) ≡ true
unfolding exit_named
exit_kept q rs os (ways.Labels k) given named = said_at q is_exit_role labels_in (labels_of q) k rs os given named
exit_kept q rs os _ given named = refl

-- ---- handlers

tag_kept : (q : ℕ → Bool) (rs : List Role) (os : List Operand) (s : Step) → Given q rs os → tag_named rs s ≡ true → list_all q (tag_labels (actions rs os s)) ≡ true
unfolding tag_named untagged
tag_kept q rs os (steps.Tag j k kind) given named = said_at q is_label_role (λ o. label_in o ∷ []) (label_of q) k rs os given named
tag_kept q rs os s given named = ap (list_all q) (step_tagless rs os s named)

tags_kept : (q : ℕ → Bool) (rs : List Role) (os : List Operand) (list : List Step) → Given q rs os → list_all (tag_named rs) list ≡ true → list_all q (tag_labels (flat_map (actions rs os) list)) ≡ true
tags_kept q rs os list given named = all_collected q tag_labels_of (actions rs os) (tag_named rs) (λ s is. tag_kept q rs os s given is) list named

-- ---- plans

planned_keep : (q : ℕ → Bool) (rs : List Role) (os : List Operand) (l : Layout) → Given q rs os → layout_named rs l ≡ true → list_all q (plan_labels (planned l rs os)) ≡ true
unfolding layout_named
planned_keep q rs os l given named =
    let and_after = and_parts _ _ named in
    let and_before = and_parts _ _ and_after.0 in
    let and_exit = and_parts _ _ and_before.0 in
    let on = all_append q _ _ (fails_kept q rs os l.fails given and_exit.0) (exit_kept q rs os l.exit given and_exit.1) in
    all_append q _ _ (all_append q _ _ on (tags_kept q rs os l.before given and_before.1)) (tags_kept q rs os l.after given and_after.1)

pub plans_keep : (q : ℕ → Bool) (i : Instruction) (ends : Bool) (p : Plan) → IsInstruction i → plan_of i ends ≡ Ok p → list_all q (own_labels (roles_of i.op) i.operands) ≡ true → list_all q (plan_labels p) ≡ true
plans_keep q i ends p arity is kept =
    let of_row = is_plan i ends p is in
    let r = of_row.row in
    let own : roles_of i.op ≡ r.roles = ap roles_in of_row.found in
    let arity_is : arity_of i.op ≡ Some r.arity = ap (option_map (λ (x : Row). x.arity)) of_row.found in
    let operands_are : r.arity ≡ length i.operands = cc in
    let given : Given q r.roles i.operands = record { shaped = of_row.shaped; same = typed_roles i.op r of_row.found of_row.typed ∙ operands_are; kept = ap (λ (rs : List Role). list_all q (own_labels rs i.operands)) (sym own) ∙ kept } in
    ap (λ (x : Plan). list_all q (plan_labels x)) of_row.planned ∙ planned_keep q r.roles i.operands (layout_of (called r.form ends)) given (layout_passes layout_named all_named i.op r of_row.found ends)
