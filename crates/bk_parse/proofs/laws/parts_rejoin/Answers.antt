use Rattle.bk_parse.proofs.Splitting.{joined_parts}
use Rattle.bk_parse.proofs.laws.parts_rejoin.Goals as goal

pub returns : goal.returns
returns c = joined_parts
