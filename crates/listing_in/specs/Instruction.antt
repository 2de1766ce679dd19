-- How an instruction is read: its name, and its operands behind a space each.
use Rattle.std.specs.Prelude.{ℕ, ◌==◌, if◌then◌else◌, List, [], ◌∷◌, length, Option, Some, None, Result, Ok, Err}
use Rattle.bk_parse.specs.Parts.{parts_at, all_of}
use Rattle.compact_term.specs.declared.operand.Operand.{Operand}
use Rattle.op_table.specs.Table.{Row, row_named}
use Rattle.op_table.specs.Instruction.{Instruction}
use Rattle.operand_text.specs.Reading.{operand_of}
use Rattle.listing_in.specs.declared.refusal.ListingWhy.{ListingWhy}
use Rattle.listing_in.specs.declared.refusal.ListingWhy.TheVariants as whys

-- as many operands as the opcode has
abbrev pub instruction_with : Row → Option (List Operand) → Result Instruction ListingWhy
instruction_with row None = Err whys.Operands
instruction_with row (Some operands) = if length operands == row.arity then Ok (record { op = row.op; operands = operands }) else Err whys.Operands

abbrev pub instruction_named : Option Row → List (List ℕ) → Result Instruction ListingWhy
instruction_named None texts = Err whys.Op
instruction_named (Some row) texts = instruction_with row (all_of operand_of texts)

abbrev pub instruction_in : List (List ℕ) → Result Instruction ListingWhy
instruction_in [] = Err whys.Op
instruction_in (name ∷ texts) = instruction_named (row_named name) texts

-- what stands behind the two spaces
abbrev pub instruction_of : List ℕ → Result Instruction ListingWhy
instruction_of text = instruction_in (parts_at 32 text)
