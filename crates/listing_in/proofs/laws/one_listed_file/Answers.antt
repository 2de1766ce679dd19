use Rattle.listing_in.proofs.LineTexts.{LineTexts}
use Rattle.listing_in.proofs.ReadText.{one_listed_file}
use Rattle.listing_in.proofs.TextsHold.{texts_hold}
use Rattle.listing_in.proofs.laws.one_listed_file.Goals as goal

pub returns : goal.returns
returns c =
    let texts : LineTexts =
    texts_hold c.payload_lines_grow.ensures c.hex_bytes_invert.ensures c.numbers_invert.ensures c.names_find_their_rows.ensures c.rows_have_their_numbers.ensures.own c.rows_have_their_numbers.ensures.number
    c.rows_have_their_numbers.ensures.name c.names_are_words.ensures c.operands_invert.ensures c.operand_texts_are_words.ensures.bytes in
    one_listed_file texts
