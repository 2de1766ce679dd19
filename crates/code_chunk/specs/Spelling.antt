-- How instructions and the payload of a code chunk are spelled as bytes.
use Rattle.std.specs.Prelude.{◌≡◌, ℕ, ◌+◌, List, [], ◌∷◌, length}
use Rattle.bk_codec.specs.Spelling.{Then, SpellsMany, SpellsWord}
use Rattle.compact_term.specs.Spelling.{Spells}
use Rattle.op_table.specs.Instruction.{Instruction, IsInstruction}
use Rattle.code_chunk.specs.declared.code.CodeVal.{CodeVal}

-- an opcode byte, and as many operands as the opcode has
abbrev pub SpellsInstr : Instruction → List ℕ → Type 0
SpellsInstr i bytes = IsInstruction i × Then (λ front. front ≡ i.op ∷ []) (SpellsMany Spells i.operands) bytes

-- the size of the sub-header, its four words and extra bytes, and instructions up to the end
abbrev pub SpellsCode : CodeVal → List ℕ → Type 0
SpellsCode c bytes =
    Then (SpellsWord (16 + length c.extra))
    (Then (SpellsWord 0)
    (Then (SpellsWord c.max_op)
    (Then (SpellsWord c.labels)
    (Then (SpellsWord c.functions)
    (Then (λ extra. extra ≡ c.extra)
    (SpellsMany SpellsInstr c.instrs)))))) bytes
