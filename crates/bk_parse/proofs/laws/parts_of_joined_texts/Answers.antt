use Rattle.bk_parse.proofs.Splitting.{parts_of_joined}
use Rattle.bk_parse.proofs.laws.parts_of_joined_texts.Goals as goal

pub returns : goal.returns
returns c = parts_of_joined
