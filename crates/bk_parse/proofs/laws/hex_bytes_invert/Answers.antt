use Rattle.bk_parse.proofs.HexPairs.{bytes_invert}
use Rattle.bk_parse.proofs.laws.hex_bytes_invert.Goals as goal

pub returns : goal.returns
returns c = bytes_invert
