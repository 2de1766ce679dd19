-- Of instructions with which nothing is wrong: they have plans, their labels are of the function, and what they call is there.
use Rattle.std.proofs.Common.{◌≡◌, ℕ, zero, suc, ◌+◌, Bool, true, false, List, [], ◌∷◌, Option, Some, None, Ok, slice_get, refl, sym, ap, ◌∙◌}
use Rattle.std.specs.List.{list_all}
use Rattle.std.specs.Option.{option_or}
use Rattle.std.proofs.lemmas.Bool.{and_from}
use Rattle.std.proofs.lemmas.Option.{none-some, same_Some}
use Rattle.std.proofs.lemmas.List.Folds.{list_all-append}
use Rattle.compact_term.specs.declared.operand.Operand.{Operand}
use Rattle.op_table.specs.declared.role.Role.{Role}
use Rattle.op_table.specs.declared.role.Role.TheVariants as roles
use Rattle.op_table.specs.declared.plans.Plan.{Plan}
use Rattle.op_table.specs.declared.row.Profile.{Profile}
use Rattle.op_table.specs.declared.row.Profile.TheVariants.{Typed, Later, Out}
use Rattle.op_table.specs.Instruction.{Instruction}
use Rattle.op_table.specs.Roles.{has_shape, misshapen_from}
use Rattle.op_table.specs.Table.{Row, row_with, roles_in, roles_of}
use Rattle.op_table.specs.Planned.{label_in}
use Rattle.op_table.specs.Planning.{typed_as, typed_only, typed_with, plan_unless, plan_in, planned_by, plan_of}
use Rattle.op_table.specs.Rules.{own_labels_of, own_labels}
use Rattle.func_split.specs.Functions.{Piece, IsEntry}
use Rattle.beam_module.specs.Module.{ModuleValue}
use Rattle.action_rules.specs.declared.reason.Reason.{Reason}
use Rattle.action_rules.specs.declared.reason.Reason.TheVariants as reasons
use Rattle.action_rules.specs.Needs.{check}
use Rattle.code_faults.specs.Naming.{is_indexed, is_own, names_own, is_target, names_target}
use Rattle.code_faults.specs.Operands.{operand_fault, operands_fault, arguments_of, fault_by, instruction_fault}
use Rattle.code_faults.proofs.Labelled.{entry_from}

-- ---- operands

neither : (one other : Option Reason) → option_or one other ≡ None → (one ≡ None) × (other ≡ None)
neither None other e = (refl, e)
neither (Some why) other e = absurd cc

passed : (b : Bool) (why : Reason) → check b why ≡ None → b ≡ true
passed true why e = refl
passed false why e = absurd cc

-- nothing is wrong with an operand
record Passes (m : ModuleValue) (f : Piece) (arguments : ℕ) (role : Role) (o : Operand) : Type 0 where
  shaped : has_shape role o ≡ true
  own : names_own f role o ≡ true
  target : names_target m arguments role o ≡ true

passes : (m : ModuleValue) (f : Piece) (arguments k : ℕ) (role : Role) (o : Operand) → operand_fault m f arguments k role o ≡ None → Passes m f arguments role o
passes m f arguments k role o e =
    let shape = neither (check (has_shape role o) (reasons.Operand k)) _ e in
    let index = neither (check (is_indexed m role o) (reasons.Index k)) _ shape.1 in
    let label = neither (check (names_own f role o) (reasons.Label k)) _ index.1 in
    record {
      shaped = passed (has_shape role o) (reasons.Operand k) shape.0;
      own = passed (names_own f role o) (reasons.Label k) label.0;
      target = passed (names_target m arguments role o) (reasons.Target k) label.1;
    }

-- nothing is wrong with any operand
abbrev OperandsPass : ModuleValue → Piece → ℕ → ℕ → List Role → List Operand → Type 0
OperandsPass m f arguments k rs os = operands_fault m f arguments k rs os ≡ None

first_passes : (m : ModuleValue) (f : Piece) (arguments k : ℕ) (role : Role) (rs : List Role) (o : Operand) (os : List Operand) → OperandsPass m f arguments k (role ∷ rs) (o ∷ os) → Passes m f arguments role o × OperandsPass m f arguments (k + 1) rs os
first_passes m f arguments k role rs o os e =
    let both = neither (operand_fault m f arguments k role o) (operands_fault m f arguments (k + 1) rs os) e in
    (passes m f arguments k role o both.0, both.1)

shaped : (m : ModuleValue) (f : Piece) (arguments k : ℕ) (rs : List Role) (os : List Operand) → OperandsPass m f arguments k rs os → misshapen_from k rs os ≡ None
shaped m f arguments k [] os e = refl
shaped m f arguments k (role ∷ rs) [] e = refl
shaped m f arguments k (role ∷ rs) (o ∷ os) e =
    let first = first_passes m f arguments k role rs o os e in
    let here = first.0.shaped in
    rw here (shaped m f arguments (k + 1) rs os first.1)

all_own : (m : ModuleValue) (f : Piece) (arguments k : ℕ) (rs : List Role) (os : List Operand) → OperandsPass m f arguments k rs os → list_all (is_own f) (own_labels rs os) ≡ true
all_own m f arguments k [] os e = refl
all_own m f arguments k (role ∷ rs) [] e = refl
all_own m f arguments k (role ∷ rs) (o ∷ os) e =
    let first = first_passes m f arguments k role rs o os e in
    list_all-append (is_own f) (own_labels_of role o) (own_labels rs os) ∙ and_from _ _ first.0.own (all_own m f arguments (k + 1) rs os first.1)

called_at : (m : ModuleValue) (f : Piece) (arguments k j : ℕ) (rs : List Role) (os : List Operand) → OperandsPass m f arguments k rs os → (o : Operand) → slice_get rs j ≡ Some roles.E → slice_get os j ≡ Some o → is_target m (label_in (Some o)) arguments ≡ true
called_at m f arguments k j [] os e o role-is o-is = absurd (none-some roles.E role-is)
called_at m f arguments k j (role ∷ rs) [] e o role-is o-is = absurd (none-some o o-is)
called_at m f arguments k zero (role ∷ rs) (first ∷ os) e o role-is o-is =
    let here = first_passes m f arguments k role rs first os e in
    ap (λ (x : Operand). is_target m (label_in (Some x)) arguments) (sym (same_Some first o o-is)) ∙ ap (λ (r : Role). names_target m arguments r first) (sym (same_Some role roles.E role-is)) ∙ here.0.target
called_at m f arguments k (suc j) (role ∷ rs) (first ∷ os) e o role-is o-is = called_at m f arguments (k + 1) j rs os (first_passes m f arguments k role rs first os e).1 o role-is o-is

-- ---- instructions

typed_row : (op : ℕ) (given r : Row) (profile : Profile) → row_with op ≡ Some given → typed_as profile given ≡ Some r → roles_of op ≡ r.roles
typed_row op given r Typed found is = ap roles_in (found ∙ is)
typed_row op given r Later found is = absurd cc
typed_row op given r Out found is = absurd cc

own_roles : (op : ℕ) (given : Option Row) (r : Row) → row_with op ≡ given → typed_only given ≡ Some r → roles_of op ≡ r.roles
own_roles op None r found is = absurd cc
own_roles op (Some given) r found is = typed_row op given r given.profile found is

-- nothing is wrong with an instruction
record IsSound (m : ModuleValue) (f : Piece) (i : Instruction) : Type 0 where
  row : Row
  typed : typed_with i.op ≡ Some row
  own : roles_of i.op ≡ row.roles
  pass : OperandsPass m f (arguments_of i) 1 row.roles i.operands

sound : (m : ModuleValue) (f : Piece) (i : Instruction) → instruction_fault m f i ≡ None → IsSound m f i
unfolding instruction_fault
sound m f i e = go (typed_with i.op) refl e
  where
    go : (r : Option Row) → typed_with i.op ≡ r → fault_by m f r i ≡ None → IsSound m f i
    go None is e = absurd cc
    go (Some r) is e = record { row = r; typed = is; own = own_roles i.op (row_with i.op) r refl is; pass = e }

pub has_plan : (m : ModuleValue) (f : Piece) (i : Instruction) (ends : Bool) → instruction_fault m f i ≡ None → (p : Plan) × (plan_of i ends ≡ Ok p)
unfolding plan_of
has_plan m f i ends e =
    let is = sound m f i e in
    let p = planned_by is.row i ends in
    let fits = shaped m f (arguments_of i) 1 is.row.roles i.operands is.pass in
    (p, ap (λ (r : Option Row). plan_in r i ends) is.typed ∙ ap (λ (k : Option ℕ). plan_unless k p) fits)

pub stays_inside : (m : ModuleValue) (f : Piece) (i : Instruction) → instruction_fault m f i ≡ None → list_all (is_own f) (own_labels (roles_of i.op) i.operands) ≡ true
stays_inside m f i e =
    let is = sound m f i e in
    ap (λ (rs : List Role). list_all (is_own f) (own_labels rs i.operands)) is.own ∙ all_own m f (arguments_of i) 1 is.row.roles i.operands is.pass

pub has_target : (m : ModuleValue) (f : Piece) (i : Instruction) (k : ℕ) (o : Operand) → instruction_fault m f i ≡ None → slice_get (roles_of i.op) k ≡ Some roles.E → slice_get i.operands k ≡ Some o → IsEntry m.code.functions (label_in (Some o)) (arguments_of i)
has_target m f i k o e role-is o-is =
    let is = sound m f i e in
    entry_from m.code.functions (label_in (Some o)) (arguments_of i) (called_at m f (arguments_of i) 1 k is.row.roles i.operands is.pass o (sym (ap (λ (rs : List Role). slice_get rs k) is.own) ∙ role-is) o-is)
