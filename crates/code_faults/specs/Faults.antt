-- The faults of a function in its opcodes and operands.
use Rattle.std.specs.Prelude.{ℕ, ◌+◌, Option, Some, None, List, [], ◌∷◌, ◌++◌}
use Rattle.op_table.specs.Instruction.{Instruction}
use Rattle.func_split.specs.Functions.{Piece}
use Rattle.beam_module.specs.Module.{ModuleValue}
use Rattle.action_rules.specs.declared.reason.Reason.{Reason}
use Rattle.code_faults.specs.declared.fault.Fault.{Fault}
use Rattle.code_faults.specs.Operands.{instruction_fault}

-- a fault of the instruction at a place of the code, which is in the function of this number
abbrev pub fault_at : ℕ → ℕ → Reason → Fault
fault_at number place why = record { function = number; place = place; reason = why }

abbrev pub faults_at : ℕ → ℕ → Option Reason → List Fault
faults_at number place None = []
faults_at number place (Some why) = fault_at number place why ∷ []

-- of these instructions, the first of which stands at this place
abbrev pub faults_from : ModuleValue → Piece → ℕ → ℕ → List Instruction → List Fault
faults_from m f number place [] = []
faults_from m f number place (i ∷ rest) = faults_at number place (instruction_fault m f i) ++ faults_from m f number (place + 1) rest

-- of the whole function, in the order of the code
abbrev pub function_faults : ModuleValue → ℕ → Piece → List Fault
function_faults m number f = faults_from m f number f.first f.instrs
