-- The report of a module as it is found: plans are made of all instructions, and typings by rounds.
use Rattle.std.specs.Prelude.{ℕ, suc, List, [], ◌∷◌, ◌++◌, Result, Ok, Err, length}
use Rattle.std.specs.List.{flat_map}
use Rattle.op_table.specs.declared.plans.Plan.{Plan}
use Rattle.op_table.specs.declared.plans.PlanRefusal.{PlanRefusal}
use Rattle.op_table.specs.Instruction.{Instruction}
use Rattle.op_table.specs.Planning.{plan_of}
use Rattle.reg_state.specs.declared.state.State.{State}
use Rattle.reg_state.specs.States.{store_of}
use Rattle.reg_state.specs.Join.{joined}
use Rattle.label_fixpoint.specs.Typing.{Typing}
use Rattle.label_fixpoint.specs.Rounds.{least_typing}
use Rattle.func_split.specs.Functions.{Piece}
use Rattle.beam_module.specs.Module.{ModuleValue}
use Rattle.code_faults.specs.declared.fault.Fault.{Fault}
use Rattle.code_faults.specs.Ending.{ends}
use Rattle.code_faults.specs.Faults.{function_faults}
use Rattle.flow_rules.specs.Body.{Body}
use Rattle.flow_rules.specs.Flow.{meaning_of}
use Rattle.flow_rules.specs.Making.{body_with}
use Rattle.flow_rules.specs.Reporting.{typed_faults}
use Rattle.flow_rules.specs.Stating.{state_from}

-- ---- the flow of a function

abbrev pub made_plan : Result Plan PlanRefusal → List Plan
made_plan (Ok p) = p ∷ []
made_plan (Err why) = []

abbrev pub plans_in : ModuleValue → List Instruction → List Plan
plans_in m instrs = flat_map (λ i. made_plan (plan_of i (ends m i))) instrs

abbrev pub body_in : ModuleValue → Piece → Body
body_in m f = body_with f (plans_in m f.instrs)

-- the least state above two
abbrev pub joined_state : Body → State → State → State
joined_state b s t = state_from b.bounds.x (joined (store_of s) (store_of t))

abbrev pub typing_in : Body → Typing State
typing_in b = least_typing (meaning_of b) (joined_state b)

-- ---- reports

abbrev pub typed_report : ℕ → Piece → Body → List Fault
typed_report number f b = typed_faults number f.first b (typing_in b) (length b.plans)

-- faults of opcodes and operands are told alone
abbrev pub report_after : ModuleValue → ℕ → Piece → List Fault → List Fault
report_after m number f (fault ∷ faults) = fault ∷ faults
report_after m number f [] = typed_report number f (body_in m f)

abbrev pub function_report : ModuleValue → ℕ → Piece → List Fault
function_report m number f = report_after m number f (function_faults m number f)

-- of these functions, the first of which has this number
abbrev pub reports_from : ModuleValue → ℕ → List Piece → List Fault
reports_from m number [] = []
reports_from m number (f ∷ functions) = function_report m number f ++ reports_from m (suc number) functions

abbrev pub report_of : ModuleValue → List Fault
report_of m = reports_from m 0 m.code.functions
