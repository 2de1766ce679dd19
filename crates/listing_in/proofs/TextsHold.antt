-- What is read in a line and its texts: all that the reading of listings stands on, from the laws below.
use Rattle.std.proofs.Common.{◌≡◌, ℕ, ◌<◌, ◌≤◌, ◌^◌, true, List, length, Some}
use Rattle.std.specs.Prelude.{decimal}
use Rattle.std.specs.List.{list_all}
use Rattle.hex.specs.Hex.{encode_lower}
use Rattle.bk_codec.specs.Spelling.{IsBytes}
use Rattle.bk_parse.specs.HexBytes.{bytes_of}
use Rattle.bk_parse.specs.Inverse.{Inverts}
use Rattle.bk_parse.specs.Numbers.{number_of}
use Rattle.compact_term.specs.declared.operand.Operand.{Operand}
use Rattle.op_table.specs.Table.{Row, is_name_byte, row_named, row_with}
use Rattle.operand_text.specs.Listed.{IsListed}
use Rattle.operand_text.specs.Operand.{operand_text}
use Rattle.operand_text.specs.Reading.{operand_of}
use Rattle.operand_text.specs.Words.{is_word_byte}
use Rattle.listing_in.proofs.HeaderFields.{header_found, header_lacks, header_only}
use Rattle.listing_in.proofs.IdTexts.{id_lacks, ids_invert}
use Rattle.listing_in.proofs.InstructionLines.{instruction_found, instruction_only}
use Rattle.listing_in.proofs.LineTexts.{LineTexts}
use Rattle.listing_in.proofs.PayloadRows.{RowsGrow}

module _ (rows : RowsGrow) (hex : Inverts bytes_of IsBytes encode_lower) (numbers : (limit : ℕ) → limit ≤ 10 ^ 64 → Inverts (number_of limit) (λ n. n < limit) decimal)
    (names_find : (op : ℕ) (r : Row) → row_with op ≡ Some r → row_named r.name ≡ Some r)
    (rows_own : (op : ℕ) (r : Row) → row_with op ≡ Some r → r.op ≡ op)
    (rows_number : (name : List ℕ) (r : Row) → row_named name ≡ Some r → row_with r.op ≡ Some r)
    (rows_name : (name : List ℕ) (r : Row) → row_named name ≡ Some r → r.name ≡ name)
    (names_are : (op : ℕ) (r : Row) → row_with op ≡ Some r → (0 < length r.name) × (list_all is_name_byte r.name ≡ true))
    (operands : Inverts operand_of IsListed operand_text)
    (operand_word : (o : Operand) → IsListed o → list_all is_word_byte (operand_text o) ≡ true) where
  pub texts_hold : LineTexts
  texts_hold = record {
    rows = rows;
    hex = hex;
    ids = ids_invert hex;
    id_lacks = id_lacks;
    header_found = header_found hex numbers;
    header_only = header_only hex numbers;
    header_lacks = header_lacks;
    instruction_found = instruction_found names_find rows_own rows_number rows_name names_are operands operand_word;
    instruction_only = instruction_only names_find rows_own rows_number rows_name names_are operands operand_word;
  }
