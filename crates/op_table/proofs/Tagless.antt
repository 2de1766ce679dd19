-- Handlers are put in by steps of their own, which come first.
use Rattle.std.proofs.Common.{◌≡◌, Bool, true, false, List, [], ◌∷◌, Option, Some, None, Ok, refl, ap, ◌∙◌}
use Rattle.std.specs.List.{list_all}
use Rattle.compact_term.specs.declared.operand.Reg.{Reg}
use Rattle.compact_term.specs.declared.operand.Plain.{Plain}
use Rattle.compact_term.specs.declared.operand.Operand.{Operand}
use Rattle.compact_term.specs.declared.operand.Operand.TheVariants as operands
use Rattle.op_table.specs.declared.role.Role.{Role}
use Rattle.op_table.specs.declared.action.Action.{Action}
use Rattle.op_table.specs.declared.action.Action.TheVariants as acts
use Rattle.op_table.specs.declared.plans.Plan.{Plan}
use Rattle.op_table.specs.declared.form.Form.{Form}
use Rattle.op_table.specs.declared.form.Form.TheVariants as forms
use Rattle.op_table.specs.declared.step.Step.{Step}
use Rattle.op_table.specs.declared.step.Step.TheVariants as steps
use Rattle.op_table.specs.Instruction.{Instruction}
use Rattle.op_table.specs.Layouts.{layout_of}
use Rattle.op_table.specs.Planned.{operand_at, members_in, values, register_of, register_write, register_writes, writes_of, actions}
use Rattle.op_table.specs.Planning.{called, plan_of}
use Rattle.op_table.specs.Rules.{tag_labels_of, tag_labels}
use Rattle.op_table.proofs.Collected.{all_collected, none_collected, reads_none, key_reads_none}
use Rattle.op_table.proofs.Of_rows.{is_plan}

unfoldable pub no_tag : Action → Bool
no_tag (acts.Tag slot label kind) = false
no_tag _ = true

-- no operand has a part in what is always done
unfoldable pub untagged : Step → Bool
untagged (steps.Tag j k kind) = false
untagged (steps.Always action) = no_tag action
untagged _ = true

always_tagless : (a : Action) → no_tag a ≡ true → tag_labels (a ∷ []) ≡ []
unfolding no_tag
always_tagless (acts.Tag slot label kind) none = absurd cc
always_tagless _ none = refl

register_tagless : (reg : Option Reg) → tag_labels (register_write reg) ≡ []
register_tagless None = refl
register_tagless (Some reg) = refl

registers_tagless : (ps : List Plain) → tag_labels (register_writes ps) ≡ []
registers_tagless ps = none_collected tag_labels_of (λ p. register_write (register_of p)) (λ p. register_tagless (register_of p)) ps

operand_tagless : (o : Option Operand) → tag_labels (writes_of o) ≡ []
operand_tagless (Some (operands.List ps)) = registers_tagless ps
operand_tagless _ = refl

pub step_tagless : (rs : List Role) (os : List Operand) (s : Step) → untagged s ≡ true → tag_labels (actions rs os s) ≡ []
unfolding untagged
step_tagless rs os (steps.Tag j k kind) is = absurd cc
step_tagless rs os (steps.Always action) is = always_tagless action is
step_tagless rs os steps.Reads is = reads_none tag_labels_of (λ s. refl) rs os
step_tagless rs os (steps.ReadKeys k) is = key_reads_none tag_labels_of (λ s. refl) (members_in (operand_at os k))
step_tagless rs os (steps.Write k) is = operand_tagless (operand_at os k)
step_tagless rs os (steps.WriteValues k) is = registers_tagless (values (members_in (operand_at os k)))
step_tagless rs os _ is = refl

-- ---- what comes after

after_untagged : (f : Form) → list_all untagged (layout_of f).after ≡ true
unfolding no_tag untagged
after_untagged forms.Pass = refl
after_untagged _ = refl

empty : {T : Type 0} (xs : List T) → list_all (λ x. false) xs ≡ true → xs ≡ []
empty [] all = refl
empty (x ∷ xs) all = absurd cc

pub plans_tag : (i : Instruction) (ends : Bool) (p : Plan) → plan_of i ends ≡ Ok p → tag_labels p.after ≡ []
plans_tag i ends p is =
    let of_row = is_plan i ends p is in
    let rs = of_row.row.roles in
    let f = called of_row.row.form ends in
    let none = all_collected (λ label. false) tag_labels_of (actions rs i.operands) untagged (λ s untag. ap (list_all (λ label. false)) (step_tagless rs i.operands s untag)) (layout_of f).after (after_untagged f) in
    ap (λ (x : Plan). tag_labels x.after) of_row.planned ∙ empty _ none
