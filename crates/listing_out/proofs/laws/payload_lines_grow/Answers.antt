use Rattle.listing_out.proofs.Rows.{lines-first}
use Rattle.listing_out.proofs.laws.payload_lines_grow.Goals as goal

pub returns : goal.returns
returns c = lines-first
