-- The text of a report.
use Rattle.std.specs.Prelude.{ℕ, ◌-◌, Option, Some, None, List, [], ◌++◌, codes, decimal, length, slice_get}
use Rattle.std.specs.List.{flat_map}
use Rattle.ext_term.specs.Name.{name_text}
use Rattle.index_tables.specs.Atoms.{atom_called}
use Rattle.op_table.specs.Instruction.{Instruction}
use Rattle.op_table.specs.Table.{row_name, row_with}
use Rattle.operand_text.specs.Operand.{register_text}
use Rattle.func_split.specs.Functions.{Piece}
use Rattle.beam_module.specs.Module.{ModuleValue}
use Rattle.action_rules.specs.declared.reason.Reason.{Reason}
use Rattle.action_rules.specs.declared.reason.Reason.TheVariants.{Unset, Slot, NoFrame, FrameOpen, FrameSize, OpenTag, Heap, Order, Innermost, Clash, Leave, Unsupported, Operand, Index, Label, Target}
use Rattle.code_faults.specs.declared.fault.Fault.{Fault}

abbrev pub reason_text : Reason → List ℕ
reason_text (Unset register) = codes "unset " ++ register_text register
reason_text (Slot register) = codes "slot " ++ register_text register
reason_text NoFrame = codes "no frame"
reason_text FrameOpen = codes "frame open"
reason_text FrameSize = codes "frame size"
reason_text (OpenTag register) = codes "open tag " ++ register_text register
reason_text Heap = codes "heap"
reason_text (Order register) = codes "order " ++ register_text register
reason_text (Innermost register) = codes "innermost " ++ register_text register
reason_text Clash = codes "clash"
reason_text Leave = codes "leave"
reason_text Unsupported = codes "unsupported"
reason_text (Operand k) = codes "operand " ++ decimal k
reason_text (Index k) = codes "index " ++ decimal k
reason_text (Label k) = codes "label " ++ decimal k
reason_text (Target k) = codes "target " ++ decimal k

-- ---- names

-- a number that no atom has is shown itself
abbrev pub name_or_number : ℕ → Option (List ℕ) → List ℕ
name_or_number n (Some name) = name_text name
name_or_number n None = codes "a" ++ decimal n

-- NAME/ARITY
abbrev pub function_text : List (List ℕ) → Piece → List ℕ
function_text atoms f = name_or_number f.name (atom_called atoms f.name) ++ codes "/" ++ decimal f.arity

abbrev pub opcode_text : Option Instruction → List ℕ
opcode_text (Some i) = row_name (row_with i.op)
opcode_text None = []

-- ---- lines

-- NAME/ARITY PLACE OPCODE: REASON
abbrev pub line_with : List (List ℕ) → Piece → List ℕ → Fault → List ℕ
line_with atoms f opcode x = function_text atoms f ++ codes " " ++ decimal x.place ++ codes " " ++ opcode ++ codes ": " ++ reason_text x.reason ++ codes "\n"

abbrev pub line_in : ModuleValue → Fault → Option Piece → List ℕ
line_in m x None = []
line_in m x (Some f) = line_with m.atoms f (opcode_text (slice_get f.instrs (x.place - f.first))) x

abbrev pub fault_line : ModuleValue → Fault → List ℕ
fault_line m x = line_in m x (slice_get m.code.functions x.function)

-- how many faults there are
abbrev pub verdict_line : List Fault → List ℕ
verdict_line [] = codes "accepted\n"
verdict_line faults = codes "refused " ++ decimal (length faults) ++ codes "\n"

-- a line for each fault, and the verdict
abbrev pub report_text : ModuleValue → List Fault → List ℕ
report_text m faults = flat_map (fault_line m) faults ++ verdict_line faults
