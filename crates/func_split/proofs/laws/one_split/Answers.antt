use Rattle.func_split.proofs.Exact.{splits_once}
use Rattle.func_split.proofs.laws.one_split.Goals as goal

pub returns : goal.returns
returns c = splits_once
