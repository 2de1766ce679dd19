-- Values that meet their types and whose operands are proper can be read back.
use Rattle.std.proofs.Common.{List, [], ◌∷◌}
use Rattle.std.specs.List.{AllByRecursion}
use Rattle.compact_term.specs.Operand.{IsProper, MeetsType}
use Rattle.compact_term.specs.declared.operand.Operand.{Operand}
use Rattle.compact_term.specs.declared.operand.Operand.TheVariants as operands
use Rattle.op_table.specs.Instruction.{Instruction}
use Rattle.operand_text.specs.Listed.{IsListed}
use Rattle.code_chunk.specs.Code.{InstrMeetsType, IsProperInstr}
use Rattle.beam_module.specs.Canonical.{FileMeetsType, HasProperOperands, IsWritable, ValueMeetsType}
use Rattle.beam_module.specs.File.{AreChunks, FileChunk}
use Rattle.beam_module.specs.declared.chunk_value.ChunkVal.{ChunkVal}
use Rattle.beam_module.specs.declared.chunk_value.ChunkVal.TheVariants.{Code, Raw}
use Rattle.listing_out.specs.Listable.{ChunkIsListed, InstrIsListed, IsListable, ValueIsListed}

operand_listed : (o : Operand) → MeetsType o → IsProper o → IsListed o
operand_listed (operands.One p) meets proper = (meets, proper)
operand_listed (operands.List ps) meets proper = λ k d inside. (meets.0 k d inside, proper k d inside)
operand_listed (operands.Alloc pairs) meets proper = meets.0

instr_listed : (i : Instruction) → InstrMeetsType i → IsProperInstr i → InstrIsListed i
instr_listed i meets proper = record { arity = meets.arity; operands = λ k d inside. operand_listed _ (meets.operands k d inside) (proper k d inside) }

value_listed : (v : ChunkVal) → ValueMeetsType v → HasProperOperands v → ValueIsListed v
value_listed (Code c) meets proper = record {
  extra = meets.extra;
  max_op = meets.max_op;
  labels = meets.labels;
  functions = meets.functions;
  instrs = λ k d inside. instr_listed _ (meets.instrs k d inside) (proper k d inside);
}
value_listed (Raw payload) meets proper = meets

chunks_listed : (v : List FileChunk) → FileMeetsType v → AllByRecursion (λ c. HasProperOperands c.1) v → AllByRecursion ChunkIsListed v
chunks_listed [] meet proper = tt
chunks_listed (c ∷ v) meet proper = (record { id = meet.0.id; id_bytes = meet.0.id_bytes; value = value_listed c.1 meet.0.value proper.0 }, chunks_listed v meet.1 proper.1)

pub file_listable : (v : List FileChunk) → AreChunks v → FileMeetsType v → IsWritable v → IsListable v
file_listable v chunks meet writable = record { chunks = chunks; listed = chunks_listed v meet writable.operands }
