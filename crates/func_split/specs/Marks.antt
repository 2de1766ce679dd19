-- What an instruction is to the split of code into functions.
use Rattle.std.specs.Prelude.{◌≡◌, ℕ, ◌==◌, nat_lt, if◌then◌else◌, Option, Some, None, List, [], ◌∷◌, map, slice_get}
use Rattle.compact_term.specs.declared.operand.Operand.{Operand}
use Rattle.compact_term.specs.declared.operand.Operand.TheVariants.{One}
use Rattle.compact_term.specs.declared.operand.Plain.TheVariants.{U, A}
use Rattle.op_table.specs.Instruction.{Instruction}
use Rattle.func_split.specs.declared.mark.Mark.{Mark}
use Rattle.func_split.specs.declared.mark.Mark.TheVariants as marks

-- the number of a `label`: its operand is a u below 2^32
abbrev pub label_of : List Operand → Option ℕ
label_of (One (U number) ∷ []) = if nat_lt number 4294967296 then Some number else None
label_of operands = None

-- name and arity of a `func_info`: its operands are the atoms of the module and of the name, and a u up to 255
abbrev pub head_of : List Operand → Option (ℕ × ℕ)
head_of (One (A owner) ∷ One (A name) ∷ One (U arity) ∷ []) = if nat_lt arity 256 then Some (name, arity) else None
head_of operands = None

abbrev pub mark_by : ℕ → List Operand → Mark
mark_by op operands =
    if op == 1 then marks.Label (label_of operands)
    else if op == 2 then marks.Func (head_of operands)
    else if op == 3 then marks.Close
    else if op == 153 then marks.Line
    else marks.Other

abbrev pub mark_of : Instruction → Mark
mark_of instr = mark_by instr.op instr.operands

abbrev pub marks_of : List Instruction → List Mark
marks_of instrs = map mark_of instrs

-- the label of this number stands at this place
abbrev pub IsLabelAt : List Mark → ℕ → ℕ → Type 0
IsLabelAt code place number = slice_get code place ≡ Some (marks.Label (Some number))
