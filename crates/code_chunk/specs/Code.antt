-- What holds of all code that a program holds, and which of it is proper.
use Rattle.std.specs.Prelude.{◌+◌, ◌^◌, ◌<◌, length, All}
use Rattle.bk_codec.specs.Spelling.{IsBytes}
use Rattle.compact_term.specs.Operand.{MeetsType, IsProper}
use Rattle.op_table.specs.Instruction.{Instruction, IsInstruction}
use Rattle.code_chunk.specs.declared.code.CodeVal.{CodeVal}

-- as many operands as the opcode has, and each meets its type
pub record InstrMeetsType (i : Instruction) : Type 0 where
  pub arity : IsInstruction i
  pub operands : All MeetsType i.operands

pub record CodeMeetsType (c : CodeVal) : Type 0 where
  pub extra : IsBytes c.extra
  pub max_op : c.max_op < 2 ^ 32
  pub labels : c.labels < 2 ^ 32
  pub functions : c.functions < 2 ^ 32
  pub instrs : All InstrMeetsType c.instrs

-- each operand is proper
abbrev pub IsProperInstr : Instruction → Type 0
IsProperInstr i = All IsProper i.operands

-- a word holds the size of the sub-header, and each operand is proper
pub record IsProperCode (c : CodeVal) : Type 0 where
  pub size : 16 + length c.extra < 2 ^ 32
  pub instrs : All IsProperInstr c.instrs
