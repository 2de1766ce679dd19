-- The first fault of an instruction in its opcode and operands.
use Rattle.std.specs.Prelude.{ℕ, ◌+◌, Option, Some, None, List, [], ◌∷◌}
use Rattle.std.specs.Option.{option_or}
use Rattle.compact_term.specs.declared.operand.Operand.{Operand}
use Rattle.op_table.specs.declared.role.Role.{Role}
use Rattle.op_table.specs.Instruction.{Instruction}
use Rattle.op_table.specs.Roles.{has_shape}
use Rattle.op_table.specs.Table.{Row}
use Rattle.op_table.specs.Planned.{operand_at, number_in}
use Rattle.op_table.specs.Planning.{typed_with}
use Rattle.func_split.specs.Functions.{Piece}
use Rattle.beam_module.specs.Module.{ModuleValue}
use Rattle.action_rules.specs.declared.reason.Reason.{Reason}
use Rattle.action_rules.specs.declared.reason.Reason.TheVariants as reasons
use Rattle.action_rules.specs.Needs.{check}
use Rattle.code_faults.specs.Naming.{is_indexed, names_own, names_target}

-- of operand k of an instruction with so many arguments: its shape, then what it names in tables, then its labels, then what it calls
abbrev pub operand_fault : ModuleValue → Piece → ℕ → ℕ → Role → Operand → Option Reason
operand_fault m f arguments k role o =
    option_or (check (has_shape role o) (reasons.Operand k))
    (option_or (check (is_indexed m role o) (reasons.Index k))
    (option_or (check (names_own f role o) (reasons.Label k))
    (check (names_target m arguments role o) (reasons.Target k))))

-- of operand k and those after it
abbrev pub operands_fault : ModuleValue → Piece → ℕ → ℕ → List Role → List Operand → Option Reason
operands_fault m f arguments k [] os = None
operands_fault m f arguments k (role ∷ rs) [] = None
operands_fault m f arguments k (role ∷ rs) (o ∷ os) = option_or (operand_fault m f arguments k role o) (operands_fault m f arguments (k + 1) rs os)

-- the first operand of a call says how many arguments it has
abbrev pub arguments_of : Instruction → ℕ
arguments_of i = number_in (operand_at i.operands 1)

abbrev pub fault_by : ModuleValue → Piece → Option Row → Instruction → Option Reason
fault_by m f None i = Some reasons.Unsupported
fault_by m f (Some r) i = operands_fault m f (arguments_of i) 1 r.roles i.operands

unfoldable pub instruction_fault : ModuleValue → Piece → Instruction → Option Reason
instruction_fault m f i = fault_by m f (typed_with i.op) i
