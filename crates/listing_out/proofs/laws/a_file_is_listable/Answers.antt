use Rattle.listing_out.proofs.ListableFiles.{file_listable}
use Rattle.listing_out.proofs.laws.a_file_is_listable.Goals as goal

pub returns : goal.returns
returns c v bytes fits is = let meets = c.a_file_meets_its_type.ensures v bytes fits is in file_listable v meets.0 meets.1 meets.2
