use Rattle.listing_in.proofs.LineTexts.{LineTexts}
use Rattle.listing_in.proofs.ReadText.{value_found, value_only, value_refused}
use Rattle.listing_in.proofs.TextsHold.{texts_hold}
use Rattle.listing_in.proofs.laws.reading_is_exact.Goals as goal

pub returns-clause-accepted : goal.returns-clause-accepted
returns-clause-accepted c text v =
    let texts : LineTexts =
    texts_hold c.payload_lines_grow.ensures c.hex_bytes_invert.ensures c.numbers_invert.ensures c.names_find_their_rows.ensures c.rows_have_their_numbers.ensures.own c.rows_have_their_numbers.ensures.number
    c.rows_have_their_numbers.ensures.name c.names_are_words.ensures c.operands_invert.ensures c.operand_texts_are_words.ensures.bytes in
    (value_found texts text v, λ is. value_only texts text v is.0 is.1)

pub returns-clause-refused : goal.returns-clause-refused
returns-clause-refused c =
    let texts : LineTexts =
    texts_hold c.payload_lines_grow.ensures c.hex_bytes_invert.ensures c.numbers_invert.ensures c.names_find_their_rows.ensures c.rows_have_their_numbers.ensures.own c.rows_have_their_numbers.ensures.number
    c.rows_have_their_numbers.ensures.name c.names_are_words.ensures c.operands_invert.ensures c.operand_texts_are_words.ensures.bytes in
    value_refused texts
