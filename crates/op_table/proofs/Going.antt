-- A plan that goes on at labels has one of them, or it can fail or raise.
use Rattle.std.proofs.Common.{◌≡◌, ◌⊎◌, ℕ, zero, suc, ◌+◌, ◌-◌, Bool, true, false, ◌||◌, List, [], ◌∷◌, length, Option, Some, None, Ok, refl, sym, ap, ◌∙◌, subst, arith, inl, inr}
use Rattle.std.specs.List.{list_all, slice_get}
use Rattle.std.specs.Option.{option_map}
use Rattle.compact_term.specs.declared.operand.Plain.TheVariants as plains
use Rattle.compact_term.specs.declared.operand.Operand.{Operand}
use Rattle.compact_term.specs.declared.operand.Operand.TheVariants as operands
use Rattle.op_table.specs.declared.role.Role.{Role}
use Rattle.op_table.specs.declared.role.Role.TheVariants as roles
use Rattle.op_table.specs.declared.plans.Exit.TheVariants as exits
use Rattle.op_table.specs.declared.plans.Plan.{Plan}
use Rattle.op_table.specs.declared.step.Way.{Way}
use Rattle.op_table.specs.declared.step.Way.TheVariants as ways
use Rattle.op_table.specs.Instruction.{Instruction, IsInstruction}
use Rattle.op_table.specs.Roles.{has_shape, misshapen, misshapen_from}
use Rattle.op_table.specs.Table.{Row, table, arity_of}
use Rattle.op_table.specs.Layouts.{Layout, layout_of}
use Rattle.op_table.specs.Planned.{planned, operand_at, fails_in, fails_at, raises_in, raises_at, labels_in, exit_of}
use Rattle.op_table.specs.Planning.{called, plan_of}
use Rattle.op_table.proofs.Named.{typed_roles}
use Rattle.op_table.proofs.Small.{shaped_parts}
use Rattle.op_table.proofs.Collected.{passes, layout_passes}
use Rattle.op_table.proofs.Of_rows.{is_plan}

-- ---- the roles of labels

is_label_role : Option Role → Bool
is_label_role (Some roles.F) = true
is_label_role _ = false

is_fail_role : Option Role → Bool
is_fail_role (Some roles.FOr0) = true
is_fail_role _ = false

may_fail : List Role → Option ℕ → Bool
may_fail rs None = false
may_fail rs (Some k) = is_fail_role (slice_get rs (k - 1))

may_go : List Role → Option ℕ → Way → Bool
may_go rs fails (ways.Labels k) = is_label_role (slice_get rs (k - 1)) || may_fail rs fails
may_go rs fails _ = true

all_may_go : list_all (passes (λ rs l. may_go rs l.fails l.exit)) table ≡ true
unfolding is_label_role is_fail_role may_fail may_go table
all_may_go = refl

-- ---- operands

either : (a b : Bool) → (a || b) ≡ true → (a ≡ true) ⊎ (b ≡ true)
either true b is = inl refl
either false b is = inr is

shaped_from : (role : Role) (k j : ℕ) (rs : List Role) (os : List Operand) → misshapen_from k rs os ≡ None → length rs ≡ length os → slice_get rs j ≡ Some role → (o : Operand) × (slice_get os j ≡ Some o) × (has_shape role o ≡ true)
shaped_from role k j [] os shaped same is = absurd cc
shaped_from role k j (r ∷ rs) [] shaped same is = absurd (omega arith)
shaped_from role k zero (r ∷ rs) (o ∷ os) shaped same is =
    let own : r ≡ role = cc in
    (o, refl, subst (λ (q : Role). has_shape q o ≡ true) own (shaped_parts k r rs o os shaped).0)
shaped_from role k (suc j) (r ∷ rs) (o ∷ os) shaped same is = shaped_from role (k + 1) j rs os (shaped_parts k r rs o os shaped).1 (omega arith) is

goes_there : (o : Operand) → has_shape roles.F o ≡ true → labels_in (Some o) ≡ [] → ⊥
goes_there (operands.One p) shaped none = absurd cc
goes_there (operands.List ps) shaped none = absurd cc
goes_there (operands.Alloc pairs) shaped none = absurd cc

fails_there : (o : Operand) → has_shape roles.FOr0 o ≡ true → fails_in (Some o) ≡ [] → raises_in (Some o) ≡ false → ⊥
fails_there (operands.One (plains.F n)) shaped none quiet = let some : (n ∷ []) ≡ [] = rw quiet at none in absurd cc
fails_there o shaped none quiet = absurd cc

module _ (rs : List Role) (os : List Operand) (shaped : misshapen rs os ≡ None) (same : length rs ≡ length os) where
  goes_at : (k : ℕ) (o : Option Role) → slice_get rs (k - 1) ≡ o → is_label_role o ≡ true → labels_in (operand_at os k) ≡ [] → ⊥
  unfolding is_label_role
  goes_at k (Some roles.F) is named none =
      let here = shaped_from roles.F 1 (k - 1) rs os shaped same is in
      goes_there here.0 here.2 (ap labels_in (sym here.1) ∙ none)
  goes_at k _ is named none = absurd cc

  fails_by : (k : ℕ) (o : Option Role) → slice_get rs (k - 1) ≡ o → is_fail_role o ≡ true → fails_in (operand_at os k) ≡ [] → raises_in (operand_at os k) ≡ false → ⊥
  unfolding is_fail_role
  fails_by k (Some roles.FOr0) is named none quiet =
      let here = shaped_from roles.FOr0 1 (k - 1) rs os shaped same is in
      fails_there here.0 here.2 (ap fails_in (sym here.1) ∙ none) (ap raises_in (sym here.1) ∙ quiet)
  fails_by k _ is named none quiet = absurd cc

  fails_or_not : (place : Option ℕ) → may_fail rs place ≡ true → fails_at os place ≡ [] → raises_at os place ≡ false → ⊥
  unfolding may_fail
  fails_or_not None named none quiet = absurd cc
  fails_or_not (Some k) named none quiet = fails_by k (slice_get rs (k - 1)) refl named none quiet

  goes : (fails : Option ℕ) (way : Way) → may_go rs fails way ≡ true → exit_of os way ≡ exits.Labels [] → fails_at os fails ≡ [] → raises_at os fails ≡ false → ⊥
  unfolding may_go
  goes fails (ways.Labels k) may exit none quiet =
      elim (either (is_label_role (slice_get rs (k - 1))) (may_fail rs fails) may) [
        | inl is ↦ goes_at k (slice_get rs (k - 1)) refl is cc
        | inr is ↦ fails_or_not fails is none quiet
      ]
  goes fails _ may exit none quiet = absurd cc

-- ---- plans

not_first : (a b : Bool) → (a || b) ≡ false → b ≡ false
not_first true b is = absurd cc
not_first false b is = is

planned_goes : (l : Layout) (rs : List Role) (os : List Operand) → misshapen rs os ≡ None → length rs ≡ length os → may_go rs l.fails l.exit ≡ true → (planned l rs os).exit ≡ exits.Labels [] → (planned l rs os).raises ≡ false → (planned l rs os).fails ≡ [] → ⊥
planned_goes l rs os shaped same may exit quiet none = goes rs os shaped same l.fails l.exit may exit none (not_first l.raises (raises_at os l.fails) quiet)

pub plans_go : (i : Instruction) (ends : Bool) (p : Plan) → IsInstruction i → plan_of i ends ≡ Ok p → p.exit ≡ exits.Labels [] → p.raises ≡ false → p.fails ≡ [] → ⊥
plans_go i ends p arity is exit quiet none =
    let of_row = is_plan i ends p is in
    let r = of_row.row in
    let arity_is : arity_of i.op ≡ Some r.arity = ap (option_map (λ (x : Row). x.arity)) of_row.found in
    let operands_are : r.arity ≡ length i.operands = cc in
    let same = typed_roles i.op r of_row.found of_row.typed ∙ operands_are in
    let may = layout_passes (λ rs l. may_go rs l.fails l.exit) all_may_go i.op r of_row.found ends in
    let planned_is = of_row.planned in
    planned_goes (layout_of (called r.form ends)) r.roles i.operands of_row.shaped same may
    (subst (λ (x : Plan). x.exit ≡ exits.Labels []) planned_is exit) (subst (λ (x : Plan). x.raises ≡ false) planned_is quiet) (subst (λ (x : Plan). x.fails ≡ []) planned_is none)
