-- What is read in a line and the texts of that, as laws say it.
use Rattle.std.proofs.Common.{◌≡◌, ℕ, List, [], ◌++◌, Some, Ok}
use Rattle.std.specs.Prelude.{codes}
use Rattle.std.specs.List.{AllByRecursion, flat_map}
use Rattle.hex.specs.Hex.{encode_lower}
use Rattle.bk_codec.specs.Spelling.{IsBytes}
use Rattle.bk_parse.specs.HexBytes.{bytes_of}
use Rattle.bk_parse.specs.Inverse.{Inverts}
use Rattle.bk_parse.specs.Parts.{Lacks}
use Rattle.iff_form.specs.declared.id.Id.{Id}
use Rattle.iff_form.specs.Text.{id_text}
use Rattle.op_table.specs.Table.{row_name, row_with}
use Rattle.op_table.specs.Instruction.{Instruction}
use Rattle.operand_text.specs.Operand.{operand_text}
use Rattle.code_chunk.specs.declared.code.CodeVal.{CodeVal}
use Rattle.listing_out.specs.Lines.{instruction_line}
use Rattle.listing_out.specs.Listable.{CodeIsListed, InstrIsListed}
use Rattle.listing_in.specs.Header.{begun_with, header_fields, header_of}
use Rattle.listing_in.specs.Ids.{IsFourBytes, id_of}
use Rattle.listing_in.specs.Instruction.{instruction_of}
use Rattle.listing_in.proofs.PayloadRows.{RowsGrow}

-- what stands behind the two spaces of an instruction's line
abbrev pub instruction_text : Instruction → List ℕ
instruction_text i = row_name (row_with i.op) ++ flat_map (λ o. codes " " ++ operand_text o) i.operands

pub record LineTexts : Type 0 where
  pub rows : RowsGrow
  pub hex : Inverts bytes_of IsBytes encode_lower
  pub ids : Inverts id_of IsFourBytes id_text
  pub id_lacks : (id : Id) → IsFourBytes id → Lacks 32 (id_text id)
  pub header_found : (fields : List (List ℕ)) (c : CodeVal) → header_of fields ≡ Some c → CodeIsListed c × (c.instrs ≡ []) × (fields ≡ header_fields c)
  pub header_only : (c : CodeVal) → CodeIsListed c → header_of (header_fields c) ≡ Some (begun_with c.max_op c.labels c.functions c.extra)
  pub header_lacks : (c : CodeVal) → CodeIsListed c → AllByRecursion (Lacks 32) (header_fields c)
  pub instruction_found : (text : List ℕ) (i : Instruction) → instruction_of text ≡ Ok i → InstrIsListed i × (codes "  " ++ text ≡ instruction_line i)
  pub instruction_only : (i : Instruction) → InstrIsListed i → instruction_of (instruction_text i) ≡ Ok i
