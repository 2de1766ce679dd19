-- How a file is listed while it is read.
use Rattle.std.specs.Prelude.{ℕ, Bool, List, ◌∷◌, ◌++◌, length, map, codes, Result, Ok}
use Rattle.std.specs.List.{flat_map}
use Rattle.bk_codec.specs.Reading.{◌>>=◌, made_of}
use Rattle.iff_form.specs.Chunk.{PlainChunk}
use Rattle.compact_term.specs.declared.operand.Operand.{Operand}
use Rattle.operand_text.specs.Operand.{operand_text}
use Rattle.code_chunk.specs.declared.refusal.CodeRefusal.{CodeRefusal}
use Rattle.code_chunk.specs.Reading.{instrs_at, code_at}
use Rattle.op_table.specs.Instruction.{Instruction}
use Rattle.beam_module.specs.declared.refusal.ModuleRefusal.{ModuleRefusal}
use Rattle.beam_module.specs.Reading.{value_of, values_of, file_of}
use Rattle.listing_out.specs.declared.names.Names.{Names}
use Rattle.listing_out.specs.Lines.{code_line, text_of}
use Rattle.listing_out.specs.Comments.{commented_chunk, commented_instruction, commented_listing, items_from, items_text}

-- the listing of the file that the bytes are
abbrev pub listing_of : List ℕ → Result (List ℕ) ModuleRefusal
listing_of bytes = file_of bytes >>= λ v. Ok (commented_listing v)

-- ---- a text, and behind it that of what is read

abbrev pub behind : {A E : Type 0} → (A → List ℕ) → List ℕ → Result (List A) E → Result (List ℕ) E
behind text out read = read >>= λ xs. Ok (out ++ flat_map text xs)

abbrev pub chunk_behind : Names → List ℕ → PlainChunk → Result (List ℕ) ModuleRefusal
chunk_behind names out c = value_of c >>= λ v. Ok (out ++ text_of (commented_chunk names v))

abbrev pub chunks_behind : Names → List ℕ → List PlainChunk → Result (List ℕ) ModuleRefusal
chunks_behind names out chunks = behind (λ v. text_of (commented_chunk names v)) out (values_of chunks)

abbrev pub code_behind : Names → List ℕ → List ℕ → Result (List ℕ) CodeRefusal
code_behind names out payload = code_at payload >>= λ c. Ok (out ++ text_of (code_line c ∷ map (commented_instruction names) c.instrs))

-- what an operand adds to its line
abbrev pub operand_put : Operand → List ℕ
operand_put o = codes " " ++ operand_text o

-- the line and its comment up to here, and behind them what the operands add that are still read
abbrev pub operands_behind : Names → ℕ → ℕ → Bool → List ℕ → List ℕ → Result (List Operand × List ℕ) CodeRefusal → Result ((List ℕ × List ℕ) × List ℕ) CodeRefusal
operands_behind names op place any out comment read = made_of (λ os. (out ++ flat_map operand_put os, comment ++ items_text any (items_from names op place os))) read

-- the line of an instruction, with its newline
abbrev pub line_of : Names → Instruction → List ℕ
line_of names i = commented_instruction names i ++ codes "\n"

abbrev pub instrs_behind : Names → List ℕ → ℕ → List ℕ → Result (List ℕ) CodeRefusal
instrs_behind names out size bytes = behind (line_of names) out (instrs_at size (length bytes) bytes)
