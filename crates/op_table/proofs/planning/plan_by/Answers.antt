use Rattle.std.proofs.lemmas.Bool.{and_parts}
use Rattle.op_table.proofs.Small.{steps_small}
use Rattle.op_table.proofs.planning.plan_by.Goals as goal

pub add_steps-requires-clause-small : goal.add_steps-requires-clause-small
add_steps-requires-clause-small c = steps_small c.args.roles.now c.args.operands.now c.args.layout.now.before.now c.requires.shaped (and_parts _ _ c.requires.fits).0

pub add_steps-requires-2-clause-small : goal.add_steps-requires-2-clause-small
add_steps-requires-2-clause-small c = steps_small c.args.roles.now c.args.operands.now c.args.layout.now.after.now c.requires.shaped (and_parts _ _ c.requires.fits).1
