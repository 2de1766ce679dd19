use Rattle.bk_parse.proofs.Signed.{signed_inverts}
use Rattle.bk_parse.proofs.laws.signed_numbers_invert.Goals as goal

pub returns : goal.returns
returns c = signed_inverts
