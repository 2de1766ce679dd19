-- The listing of a file: a line `beam 1`, and then the lines of each chunk in order.
use Rattle.std.specs.Prelude.{ℕ, List, [], ◌∷◌, ◌++◌, length, map, codes, decimal}
use Rattle.std.specs.List.{flat_map, range_with_len}
use Rattle.std.specs.Fork.{slice_chunk}
use Rattle.std.specs.Int.{div_ceil}
use Rattle.hex.specs.Hex.{encode_lower}
use Rattle.iff_form.specs.Text.{id_text}
use Rattle.op_table.specs.Table.{row_name, row_with}
use Rattle.op_table.specs.Instruction.{Instruction}
use Rattle.code_chunk.specs.declared.code.CodeVal.{CodeVal}
use Rattle.beam_module.specs.File.{FileChunk}
use Rattle.beam_module.specs.declared.chunk_value.ChunkVal.TheVariants.{Code, Raw}
use Rattle.operand_text.specs.Operand.{operand_text}

-- ---- payloads

-- line k, counted from 0: two spaces, and the 32 bytes from 32 k on, or what is left of them, in hexadecimal
abbrev pub payload_line : List ℕ → ℕ → List ℕ
payload_line payload k = codes "  " ++ encode_lower (slice_chunk payload 32 k)

-- as many lines as the payload takes
abbrev pub payload_lines : List ℕ → List (List ℕ)
payload_lines payload = map (payload_line payload) (range_with_len 0 (div_ceil (length payload) 32))

-- ---- code

-- two spaces, the name, and each operand behind a space
abbrev pub instruction_line : Instruction → List ℕ
instruction_line i = codes "  " ++ row_name (row_with i.op) ++ flat_map (λ o. codes " " ++ operand_text o) i.operands

-- the extra bytes of the sub-header, or a dash where there are none
abbrev pub extra_text : List ℕ → List ℕ
extra_text [] = codes "-"
extra_text (b ∷ bytes) = encode_lower (b ∷ bytes)

-- the highest opcode, the counts of labels and functions, and the extra bytes
abbrev pub code_line : CodeVal → List ℕ
code_line c =
    codes "code " ++ decimal c.max_op ++ codes " " ++ decimal c.labels ++ codes " " ++ decimal c.functions ++ codes " " ++ extra_text c.extra

-- ---- files

abbrev pub chunk_lines : FileChunk → List (List ℕ)
chunk_lines (id, Code c) = code_line c ∷ map instruction_line c.instrs
chunk_lines (id, Raw payload) = (codes "chunk " ++ id_text id) ∷ payload_lines payload

abbrev pub lines : List FileChunk → List (List ℕ)
lines chunks = codes "beam 1" ∷ flat_map chunk_lines chunks

-- lines as text, each with a newline
abbrev pub text_of : List (List ℕ) → List ℕ
text_of ls = flat_map (λ line. line ++ codes "\n") ls
