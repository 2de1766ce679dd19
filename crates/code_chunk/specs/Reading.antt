-- How the payload of a code chunk is read from the left, and which refusal comes first.
use Rattle.std.specs.Prelude.{ℕ, zero, suc, ◌-◌, Option, Some, None, List, [], ◌∷◌, length, drop, ◌==◌, nat_lt, if◌then◌else◌, Result, Ok, Err}
use Rattle.byteorder.specs.Endian.{big_number}
use Rattle.bk_codec.specs.Reading.{◌>>=◌, refused_as, giving, made_of, bytes_at, number_at, many_at}
use Rattle.compact_term.specs.declared.operand.Operand.{Operand}
use Rattle.compact_term.specs.declared.refusal.OperandRefusal.{OperandRefusal}
use Rattle.compact_term.specs.Reading.{operand_at}
use Rattle.op_table.specs.Table.{arity_of}
use Rattle.op_table.specs.Instruction.{Instruction}
use Rattle.code_chunk.specs.declared.code.CodeVal.{CodeVal}
use Rattle.code_chunk.specs.declared.refusal.CodeRefusal.{CodeRefusal}
use Rattle.code_chunk.specs.declared.refusal.CodeRefusal.TheVariants as refusals

-- a refused operand, with its offset
abbrev pub located : {X : Type 0} → ℕ → Result X OperandRefusal → Result X CodeRefusal
located at read = refused_as (refusals.Operand at) read

-- an operand in a payload of this size
abbrev pub operand_in : ℕ → List ℕ → Result (Operand × List ℕ) CodeRefusal
operand_in size bytes = located (size - length bytes) (operand_at bytes)

-- behind an opcode, its operands
abbrev pub instr_with : ℕ → ℕ → Option ℕ → List ℕ → Result (Instruction × List ℕ) CodeRefusal
instr_with size op (Some arity) bytes = made_of (λ operands. record { op = op; operands = operands }) (many_at (operand_in size) arity bytes)
instr_with size op None bytes = Err (refusals.Opcode (size - suc (length bytes)) op)

-- an instruction before those that are read behind it
abbrev pub before : Instruction → Result (List Instruction) CodeRefusal → Result (List Instruction) CodeRefusal
before i read = read >>= λ others. Ok (i ∷ others)

-- the instructions up to the end of a payload of this size, of which there are at most n
unfoldable pub instrs_at : ℕ → ℕ → List ℕ → Result (List Instruction) CodeRefusal
instrs_at size n [] = Ok []
instrs_at size zero (op ∷ bytes) = Ok []
instrs_at size (suc n) (op ∷ bytes) = instr_with size op (arity_of op) bytes >>= λ i. before i.0 (instrs_at size n i.1)

-- a sub-header of this size
abbrev pub sized_at : ℕ → List ℕ → Result (List ℕ × List ℕ) CodeRefusal
sized_at size bytes = if nat_lt size 16 then Err refusals.Header else bytes_at refusals.Header size bytes

-- its format stands in its first word
abbrev pub of_format : List ℕ → List ℕ → Result (List ℕ × List ℕ) CodeRefusal
of_format header bytes = if big_number 4 header == 0 then giving header bytes else Err refusals.Header

-- the bytes of the sub-header, before which stands their number
unfoldable pub header_at : List ℕ → Result (List ℕ × List ℕ) CodeRefusal
header_at bytes = do
  size ← number_at refusals.Header 4 bytes
  header ← sized_at size.0 size.1
  of_format header.0 header.1

-- what the words of a sub-header say, its extra bytes, and the instructions
abbrev pub code_of : List ℕ → List Instruction → CodeVal
code_of header instrs = record {
  extra = drop 16 header;
  max_op = big_number 4 (drop 4 header);
  labels = big_number 4 (drop 8 header);
  functions = big_number 4 (drop 12 header);
  instrs = instrs;
}

unfoldable pub code_at : List ℕ → Result CodeVal CodeRefusal
code_at bytes = do
  header ← header_at bytes
  instrs ← instrs_at (length bytes) (length header.1) header.1
  Ok (code_of header.0 instrs)
