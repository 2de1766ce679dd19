use Rattle.func_split.proofs.Standing.{stands_in}
use Rattle.func_split.proofs.laws.functions_stand_in_their_code.Goals as goal

pub returns : goal.returns
returns c = stands_in
