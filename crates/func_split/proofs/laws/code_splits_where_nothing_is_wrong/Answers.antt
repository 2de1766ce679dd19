use Rattle.func_split.proofs.Exact.{splits_where_sound}
use Rattle.func_split.proofs.laws.code_splits_where_nothing_is_wrong.Goals as goal

pub returns : goal.returns
returns c = splits_where_sound
