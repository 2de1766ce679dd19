use Rattle.op_table.proofs.Named.{typed_roles, other_roles}
use Rattle.op_table.proofs.laws.rows_have_their_roles.Goals as goal

pub returns-clause-typed : goal.returns-clause-typed
returns-clause-typed c = typed_roles

pub returns-clause-other : goal.returns-clause-other
returns-clause-other c = other_roles
