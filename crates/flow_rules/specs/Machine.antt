-- A machine that runs the code of a module: where it stands, what it holds, and why it is stuck.
use Rattle.std.specs.Prelude.{ℕ, ◌+◌, nat_lt, nat_le, Bool, false, ◌&&◌, Option, Some, None, Result, Ok, Err, List, length, slice_get}
use Rattle.std.specs.List.{find}
use Rattle.op_table.specs.declared.plans.Plan.{Plan}
use Rattle.op_table.specs.declared.plans.PlanRefusal.{PlanRefusal}
use Rattle.op_table.specs.Instruction.{Instruction}
use Rattle.op_table.specs.Planning.{plan_of}
use Rattle.func_split.specs.Functions.{Piece}
use Rattle.func_split.specs.Marks.{marks_of}
use Rattle.beam_module.specs.Module.{ModuleValue}
use Rattle.action_rules.specs.declared.reason.Reason.{Reason}
use Rattle.action_rules.specs.declared.reason.Reason.TheVariants.{Leave, Unsupported}
use Rattle.action_rules.specs.Needs.{plan_need}
use Rattle.code_faults.specs.Ending.{ends}
use Rattle.code_faults.specs.Operands.{instruction_fault}
use Rattle.flow_rules.specs.Body.{place_in}
use Rattle.flow_rules.specs.Values.{Frame, Local, values}

-- a call that has not returned: the place of the call, and the frame there
pub record Activation : Type 0 where
  pub place : ℕ
  pub frame : Frame

-- the place of an instruction in the code, counted from 0; registers, frame and what is reserved; the calls that wait, the last one first
pub record Machine : Type 0 where
  pub place : ℕ
  pub local : Local
  pub waiting : List Activation

-- ---- places

abbrev pub is_inside : ℕ → Piece → Bool
is_inside place f = nat_le f.first place && nat_lt place (f.first + length f.instrs)

abbrev pub function_at : ModuleValue → ℕ → Option Piece
function_at m place = find (is_inside place) m.code.functions

abbrev pub has_next_in : ℕ → Option Piece → Bool
has_next_in place None = false
has_next_in place (Some f) = is_inside (place + 1) f

-- the next place is in the same function
abbrev pub has_next_at : ModuleValue → ℕ → Bool
has_next_at m place = has_next_in place (function_at m place)

abbrev pub label_place : ModuleValue → ℕ → ℕ
label_place m label = place_in (marks_of m.code.instrs) label

-- ---- plans

-- a plan only where nothing is wrong with the opcode or operands
abbrev pub plan_or_fault : Option Reason → Result Plan PlanRefusal → Result Plan Reason
plan_or_fault (Some why) plan = Err why
plan_or_fault None (Ok p) = Ok p
plan_or_fault None (Err refusal) = Err Unsupported

abbrev pub found_plan : ModuleValue → Option Piece → Option Instruction → Result Plan Reason
found_plan m None i = Err Leave
found_plan m (Some f) None = Err Leave
found_plan m (Some f) (Some i) = plan_or_fault (instruction_fault m f i) (plan_of i (ends m i))

-- of the instruction at a place of the code, or what is wrong with its opcode or operands
abbrev pub plan_at : ModuleValue → ℕ → Result Plan Reason
plan_at m place = found_plan m (function_at m place) (slice_get m.code.instrs place)

-- ---- being stuck

abbrev pub stop_by : Bool → Local → Result Plan Reason → Option Reason
stop_by has_next local (Err why) = Some why
stop_by has_next local (Ok p) = plan_need values has_next p local

-- why it is stuck: what is wrong with the instruction, or the first need of its plan that fails
abbrev pub stop : ModuleValue → Machine → Option Reason
stop m s = stop_by (has_next_at m s.place) s.local (plan_at m s.place)
