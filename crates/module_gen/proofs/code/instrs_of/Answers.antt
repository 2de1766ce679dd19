use Rattle.std.proofs.Common.{refl}
use Rattle.op_table.specs.Table.{table}
use Rattle.module_gen.proofs.code.instrs_of.Goals as goal

pub none-requires : goal.none-requires
unfolding table
none-requires c = refl
