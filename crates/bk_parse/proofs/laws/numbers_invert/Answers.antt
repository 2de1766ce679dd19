use Rattle.bk_parse.proofs.Numerals.{number_inverts}
use Rattle.bk_parse.proofs.laws.numbers_invert.Goals as goal

pub returns : goal.returns
returns c = number_inverts
