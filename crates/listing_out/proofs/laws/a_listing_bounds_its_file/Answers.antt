use Rattle.listing_out.proofs.Bounds.{file_near, file_writable}
use Rattle.listing_out.proofs.laws.a_listing_bounds_its_file.Goals as goal

pub returns-clause-size : goal.returns-clause-size
returns-clause-size c = file_near c.canonical_is_near_its_text.ensures

pub returns-clause-writable : goal.returns-clause-writable
returns-clause-writable c = file_writable c.canonical_is_near_its_text.ensures
