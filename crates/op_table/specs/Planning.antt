-- The plans of instructions.
use Rattle.std.specs.Prelude.{ℕ, Bool, true, Option, Some, None, Result, Ok, Err}
use Rattle.op_table.specs.declared.form.Form.{Form}
use Rattle.op_table.specs.declared.form.Form.TheVariants as forms
use Rattle.op_table.specs.declared.plans.Plan.{Plan}
use Rattle.op_table.specs.declared.plans.PlanRefusal.{PlanRefusal}
use Rattle.op_table.specs.declared.plans.PlanRefusal.TheVariants as refusals
use Rattle.op_table.specs.declared.row.Profile.{Profile}
use Rattle.op_table.specs.declared.row.Profile.TheVariants.{Typed, Later, Out}
use Rattle.op_table.specs.Instruction.{Instruction}
use Rattle.op_table.specs.Roles.{misshapen}
use Rattle.op_table.specs.Table.{Row, row_with}
use Rattle.op_table.specs.Layouts.{layout_of}
use Rattle.op_table.specs.Planned.{planned}

-- the form of a call where what is called may never return
abbrev pub called : Form → Bool → Form
called forms.CallExt true = forms.NeverReturns
called form ends = form

abbrev pub typed_as : Profile → Row → Option Row
typed_as Typed r = Some r
typed_as Later r = None
typed_as Out r = None

abbrev pub typed_only : Option Row → Option Row
typed_only (Some r) = typed_as r.profile r
typed_only None = None

-- the row of an opcode, if it is one that is validated
abbrev pub typed_with : ℕ → Option Row
typed_with op = typed_only (row_with op)

-- the plan by a row, whatever shapes the operands have
abbrev pub planned_by : Row → Instruction → Bool → Plan
planned_by r i ends = planned (layout_of (called r.form ends)) r.roles i.operands

abbrev pub plan_unless : Option ℕ → Plan → Result Plan PlanRefusal
plan_unless None p = Ok p
plan_unless (Some k) p = Err (refusals.Shape k)

abbrev pub plan_in : Option Row → Instruction → Bool → Result Plan PlanRefusal
plan_in (Some r) i ends = plan_unless (misshapen r.roles i.operands) (planned_by r i ends)
plan_in None i ends = Err (refusals.Unsupported i.op)

-- the plan of an instruction; `ends` says that it calls what never returns
unfoldable pub plan_of : Instruction → Bool → Result Plan PlanRefusal
plan_of i ends = plan_in (typed_with i.op) i ends
