-- Where a payload stops being code, and what is wrong there.
use Rattle.std.specs.Prelude.{◌≡◌, ◌≢◌, ℕ, ◌+◌, ◌<◌, ◌≤◌, Some, None, List, ◌∷◌, ◌++◌, length, take, drop, Err}
use Rattle.byteorder.specs.Endian.{big_number}
use Rattle.bk_codec.specs.Spelling.{SpellsMany}
use Rattle.compact_term.specs.declared.operand.Operand.{Operand}
use Rattle.compact_term.specs.declared.refusal.OperandRefusal.{OperandRefusal}
use Rattle.compact_term.specs.declared.refusal.OperandRefusal.TheVariants as operand_refusals
use Rattle.compact_term.specs.Spelling.{Spells}
use Rattle.compact_term.specs.Reading.{operand_at}
use Rattle.op_table.specs.Table.{arity_of}
use Rattle.op_table.specs.Instruction.{Instruction}
use Rattle.code_chunk.specs.declared.refusal.CodeRefusal.{CodeRefusal}
use Rattle.code_chunk.specs.declared.refusal.CodeRefusal.TheVariants as refusals
use Rattle.code_chunk.specs.Spelling.{SpellsInstr}

-- ---- the longest front of whole instructions

abbrev pub AreInstrs : List ℕ → Type 0
AreInstrs bytes = (instrs : List Instruction) × SpellsMany SpellsInstr instrs bytes

-- the longest front of the bytes that is whole instructions has this length
pub record IsStop (stop : ℕ) (bytes : List ℕ) : Type 0 where
  pub within : stop ≤ length bytes
  pub whole : AreInstrs (take stop bytes)
  pub longest : (n : ℕ) → n ≤ length bytes → AreInstrs (take n bytes) → n ≤ stop

-- ---- the sub-header

-- a whole sub-header of format 0, behind the word that states its size
pub record HasHeader (payload : List ℕ) : Type 0 where
  pub stated : 4 ≤ length payload
  pub least : 16 ≤ big_number 4 payload
  pub whole : 4 + big_number 4 payload ≤ length payload
  pub format : big_number 4 (drop 4 payload) ≡ 0

-- the offset of the first instruction
abbrev pub instrs_from : List ℕ → ℕ
instrs_from payload = 4 + big_number 4 payload

-- ---- what is wrong with a payload

-- behind the longest front of whole instructions stands a byte that is no opcode
pub record IsNoOpcode (at op : ℕ) (payload : List ℕ) : Type 0 where
  pub header : HasHeader payload
  pub stop : ℕ
  pub is_stop : IsStop stop (drop (instrs_from payload) payload)
  pub after : List ℕ
  pub left : drop at payload ≡ op ∷ after
  pub none : arity_of op ≡ None
  pub place : at ≡ instrs_from payload + stop

-- behind the longest front of whole instructions stand an opcode and too few of its operands, and
-- the next is refused
pub record IsNoOperand (at : ℕ) (why : OperandRefusal) (payload : List ℕ) : Type 0 where
  pub header : HasHeader payload
  pub stop : ℕ
  pub is_stop : IsStop stop (drop (instrs_from payload) payload)
  pub op : ℕ
  pub arity : ℕ
  pub has : arity_of op ≡ Some arity
  pub operands : List Operand
  pub fewer : length operands < arity
  pub text : List ℕ
  pub spelt : SpellsMany Spells operands text
  pub after : List ℕ
  pub left : drop (instrs_from payload + stop) payload ≡ op ∷ (text ++ after)
  pub refused : operand_at after ≡ Err why
  pub place : at ≡ instrs_from payload + stop + 1 + length text

-- this is wrong with the payload; want of memory is nothing that is wrong with it
abbrev pub IsWrong : CodeRefusal → List ℕ → Type 0
IsWrong refusals.Header payload = ¬ HasHeader payload
IsWrong (refusals.Opcode at op) payload = IsNoOpcode at op payload
IsWrong (refusals.Operand at why) payload = IsNoOperand at why payload × (why ≢ operand_refusals.NoMemory)
IsWrong refusals.NoMemory payload = ⊥
