-- Which files have lines that can be read back: those whose numbers are in their ranges and whose operands are proper.
use Rattle.std.specs.Prelude.{◌≡◌, ◌^◌, ◌<◌, All, List, length}
use Rattle.std.specs.List.{AllByRecursion}
use Rattle.bk_codec.specs.Spelling.{IsBytes}
use Rattle.op_table.specs.Instruction.{Instruction, IsInstruction}
use Rattle.operand_text.specs.Listed.{IsListed}
use Rattle.code_chunk.specs.declared.code.CodeVal.{CodeVal}
use Rattle.beam_module.specs.declared.chunk_value.ChunkVal.{ChunkVal}
use Rattle.beam_module.specs.declared.chunk_value.ChunkVal.TheVariants.{Code, Raw}
use Rattle.beam_module.specs.File.{AreChunks, FileChunk}

-- as many operands as the opcode has, each of which has a text that is read back
pub record InstrIsListed (i : Instruction) : Type 0 where
  pub arity : IsInstruction i
  pub operands : All IsListed i.operands

pub record CodeIsListed (c : CodeVal) : Type 0 where
  pub extra : IsBytes c.extra
  pub max_op : c.max_op < 2 ^ 32
  pub labels : c.labels < 2 ^ 32
  pub functions : c.functions < 2 ^ 32
  pub instrs : All InstrIsListed c.instrs

abbrev pub ValueIsListed : ChunkVal → Type 0
ValueIsListed (Code c) = CodeIsListed c
ValueIsListed (Raw payload) = IsBytes payload

pub record ChunkIsListed (c : FileChunk) : Type 0 where
  pub id : length c.0.0 ≡ 4
  pub id_bytes : IsBytes c.0.0
  pub value : ValueIsListed c.1

-- the chunks of a file, each of which can be read back
pub record IsListable (v : List FileChunk) : Type 0 where
  pub chunks : AreChunks v
  pub listed : AllByRecursion ChunkIsListed v
