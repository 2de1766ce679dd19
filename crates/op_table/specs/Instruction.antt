-- An instruction is an opcode with as many operands as the table says.
use Rattle.std.specs.Prelude.{◌≡◌, ℕ, Some, List, length}
use Rattle.compact_term.specs.declared.operand.Operand.{Operand}
use Rattle.op_table.specs.Table.{arity_of}

pub record Instruction : Type 0 where
  pub op : ℕ
  pub operands : List Operand

abbrev pub IsInstruction : Instruction → Type 0
IsInstruction i = arity_of i.op ≡ Some (length i.operands)
