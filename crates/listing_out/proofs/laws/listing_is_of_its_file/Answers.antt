use Rattle.listing_out.proofs.ReadBack.{commented_is_a_listing}
use Rattle.listing_out.proofs.laws.listing_is_of_its_file.Goals as goal

pub returns : goal.returns
returns c v bytes fits is =
    let words = c.operand_texts_are_words.ensures in
    commented_is_a_listing c.names_are_words.ensures words.bytes words.some v (c.a_file_is_listable.ensures v bytes fits is)
