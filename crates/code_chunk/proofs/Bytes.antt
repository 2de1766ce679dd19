-- What spells code that meets its type is bytes.
use Rattle.std.proofs.Common.{ℕ, ◌+◌, List, [], ◌∷◌, length, sym, subst}
use Rattle.bk_codec.specs.Spelling.{IsBytes, SpellsWord}
use Rattle.compact_term.specs.Operand.{MeetsType}
use Rattle.compact_term.specs.Spelling.{Spells}
use Rattle.compact_term.proofs.Bytes.{bytes_none, bytes_cons, big_bytes_are, then_bytes, each_bytes, operand_bytes}
use Rattle.op_table.specs.Instruction.{Instruction}
use Rattle.op_table.proofs.Numbered.{opcode_below}
use Rattle.code_chunk.specs.declared.code.CodeVal.{CodeVal}
use Rattle.code_chunk.specs.Spelling.{SpellsInstr, SpellsCode}
use Rattle.code_chunk.specs.Code.{InstrMeetsType, CodeMeetsType}

instr_bytes : (i : Instruction) (bytes : List ℕ) → InstrMeetsType i → SpellsInstr i bytes → IsBytes bytes
instr_bytes i bytes meets is =
    let op : IsBytes (i.op ∷ []) = bytes_cons i.op [] (opcode_below i.op (length i.operands) meets.arity) bytes_none in
    then_bytes (λ front same. subst IsBytes (sym same) op) (λ back. each_bytes Spells MeetsType operand_bytes i.operands back meets.operands) bytes is.1

word_bytes : (x : ℕ) (bytes : List ℕ) → SpellsWord x bytes → IsBytes bytes
word_bytes x bytes is = subst IsBytes (sym is.is) (big_bytes_are 4 x)

pub code_bytes : (c : CodeVal) (payload : List ℕ) → CodeMeetsType c → SpellsCode c payload → IsBytes payload
code_bytes c payload meets is =
    then_bytes (word_bytes (16 + length c.extra)) (then_bytes (word_bytes 0) (then_bytes (word_bytes c.max_op) (then_bytes (word_bytes c.labels) (then_bytes (word_bytes c.functions) (
    then_bytes (λ extra same. subst IsBytes (sym same) meets.extra) (λ instrs. each_bytes SpellsInstr InstrMeetsType instr_bytes c.instrs instrs meets.instrs)))))) payload is
