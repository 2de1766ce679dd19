-- The flow that a function of a module has where nothing is wrong with its instructions.
use Rattle.std.specs.Prelude.{◌≡◌, ℕ, max, Ok, Option, Some, None, List, [], ◌∷◌, ◌++◌, slice_get}
use Rattle.std.specs.List.{AllZip, flat_map}
use Rattle.op_table.specs.declared.action.Action.{Action}
use Rattle.op_table.specs.declared.action.Action.TheVariants as acts
use Rattle.op_table.specs.declared.plans.Plan.{Plan}
use Rattle.op_table.specs.Instruction.{Instruction, IsInstruction}
use Rattle.op_table.specs.Planning.{plan_of}
use Rattle.op_table.specs.Rules.{tag_labels}
use Rattle.func_split.specs.Functions.{Piece}
use Rattle.beam_module.specs.Module.{ModuleValue}
use Rattle.code_faults.specs.declared.fault.Fault.{Fault}
use Rattle.code_faults.specs.Ending.{ends}
use Rattle.code_faults.specs.Faults.{function_faults}
use Rattle.code_faults.specs.Operands.{instruction_fault}
use Rattle.code_faults.specs.Registers.{x_bound}
use Rattle.flow_rules.specs.Body.{Body, body_from}

-- nothing is wrong with the instruction, and this is its plan
pub record HasPlan (m : ModuleValue) (f : Piece) (i : Instruction) (p : Plan) : Type 0 where
  pub instruction : IsInstruction i
  pub sound : instruction_fault m f i ≡ None
  pub plan : plan_of i (ends m i) ≡ Ok p

-- nothing is wrong with any instruction, and these are their plans
abbrev pub ArePlans : ModuleValue → Piece → List Instruction → List Plan → Type 0
ArePlans m f instrs plans = AllZip (HasPlan m f) instrs plans

-- the labels of `catch` and `try`, in the order of the code
abbrev pub handlers_of : List Plan → List ℕ
handlers_of plans = flat_map (λ p. tag_labels p.before) plans

-- ---- the greatest frame

abbrev pub widened : ℕ → Action → ℕ
widened y (acts.NewFrame n) = max y n
widened y _ = y

abbrev pub widened_by : ℕ → List Action → ℕ
widened_by y [] = y
widened_by y (a ∷ rest) = widened_by (widened y a) rest

abbrev pub y_bound : List Plan → ℕ
y_bound plans = widened_by 0 (flat_map (λ p. p.before ++ p.after) plans)

-- ---- functions

abbrev pub body_with : Piece → List Plan → Body
body_with f plans = body_from f plans (handlers_of plans) (x_bound f) (y_bound plans)

-- the flow of function number `number`
pub record IsFlowOf (m : ModuleValue) (number : ℕ) (b : Body) : Type 0 where
  pub function : Piece
  pub is_there : slice_get m.code.functions number ≡ Some function
  pub plans : List Plan
  pub plans_are : ArePlans m function function.instrs plans
  pub is : b ≡ body_with function plans

abbrev pub faults_of_piece : ModuleValue → ℕ → Option Piece → List Fault
faults_of_piece m number None = []
faults_of_piece m number (Some f) = function_faults m number f

-- what is wrong with the opcodes and operands of a function
abbrev pub faults_of : ModuleValue → ℕ → List Fault
faults_of m number = faults_of_piece m number (slice_get m.code.functions number)
