use Rattle.listing_in.proofs.ReadValues.{answer_found, answer_only, answer_writable, answer_wrong}
use Rattle.listing_in.proofs.reading.read_listing.Goals as goal

pub returns-clause-found : goal.returns-clause-found
returns-clause-found c = answer_found c.reading_is_exact.ensures.accepted c.reading_is_exact.ensures.refused c.args.s.now c.listed_file.result c.listed_file.ensures

pub returns-clause-writable : goal.returns-clause-writable
returns-clause-writable c =
    answer_writable c.reading_is_exact.ensures.accepted c.reading_is_exact.ensures.refused c.a_listing_bounds_its_file.ensures.writable c.args.s.now c.listed_file.result c.listed_file.ensures

pub returns-clause-only : goal.returns-clause-only
returns-clause-only c = answer_only c.reading_is_exact.ensures.accepted c.reading_is_exact.ensures.refused c.args.s.now c.listed_file.result c.listed_file.ensures

pub returns-clause-wrong : goal.returns-clause-wrong
returns-clause-wrong c = answer_wrong c.reading_is_exact.ensures.accepted c.reading_is_exact.ensures.refused c.args.s.now c.listed_file.result c.listed_file.ensures
