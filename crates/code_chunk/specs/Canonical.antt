-- The canonical spelling of code: each operand has its canonical spelling.
use Rattle.std.specs.Prelude.{ℕ, ◌+◌, List, ◌∷◌, ◌++◌, length}
use Rattle.std.specs.List.{flat_map}
use Rattle.byteorder.specs.Endian.{big_bytes}
use Rattle.compact_term.specs.Canonical.{canonical}
use Rattle.op_table.specs.Instruction.{Instruction}
use Rattle.code_chunk.specs.declared.code.CodeVal.{CodeVal}

abbrev pub canonical_instr : Instruction → List ℕ
canonical_instr i = i.op ∷ flat_map canonical i.operands

-- the size of the sub-header, its four words and extra bytes
abbrev pub canonical_header : CodeVal → List ℕ
canonical_header c = big_bytes 4 (16 + length c.extra) ++ (big_bytes 4 0 ++ (big_bytes 4 c.max_op ++ (big_bytes 4 c.labels ++ (big_bytes 4 c.functions ++ c.extra))))

abbrev pub canonical_code : CodeVal → List ℕ
canonical_code c = canonical_header c ++ flat_map canonical_instr c.instrs
