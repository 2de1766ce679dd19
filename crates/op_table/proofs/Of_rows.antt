-- A plan comes from the row of its opcode.
use Rattle.std.proofs.Common.{◌≡◌, ℕ, Bool, Option, Some, None, Ok, refl}
use Rattle.op_table.specs.declared.plans.Plan.{Plan}
use Rattle.op_table.specs.declared.row.Profile.{Profile}
use Rattle.op_table.specs.declared.row.Profile.TheVariants.{Typed, Later, Out}
use Rattle.op_table.specs.Instruction.{Instruction}
use Rattle.op_table.specs.Roles.{misshapen}
use Rattle.op_table.specs.Table.{Row, row_with}
use Rattle.op_table.specs.Planning.{typed_as, typed_only, plan_unless, plan_in, plan_of, planned_by}
use Rattle.op_table.specs.Rules.{IsPlanOf}

unless_none : (k : Option ℕ) (p q : Plan) → plan_unless k p ≡ Ok q → (k ≡ None) × (q ≡ p)
unless_none None p q is = (refl, cc)
unless_none (Some k) p q is = absurd cc

of_typed : (i : Instruction) (ends : Bool) (p : Plan) (r : Row) (profile : Profile) → r.profile ≡ profile → row_with i.op ≡ Some r → plan_in (typed_as profile r) i ends ≡ Ok p → IsPlanOf i ends p
of_typed i ends p r Typed typed found is =
    let parts = unless_none (misshapen r.roles i.operands) (planned_by r i ends) p is in
    record { row = r; found = found; typed = typed; shaped = parts.0; planned = parts.1 }
of_typed i ends p r Later typed found is = absurd cc
of_typed i ends p r Out typed found is = absurd cc

of_row : (i : Instruction) (ends : Bool) (p : Plan) (row : Option Row) → row_with i.op ≡ row → plan_in (typed_only row) i ends ≡ Ok p → IsPlanOf i ends p
of_row i ends p None found is = absurd cc
of_row i ends p (Some r) found is = of_typed i ends p r r.profile refl found is

pub is_plan : (i : Instruction) (ends : Bool) (p : Plan) → plan_of i ends ≡ Ok p → IsPlanOf i ends p
unfolding plan_of
is_plan i ends p is = of_row i ends p (row_with i.op) refl is
