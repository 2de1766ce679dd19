use Rattle.std.proofs.Common.{Some, sym, ap, ◌∙◌}
use Rattle.op_table.specs.Table.{row_of}
use Rattle.op_table.proofs.Named.{typed_roles}
use Rattle.op_table.proofs.Fitting.{few_roles, fitting}
use Rattle.op_table.proofs.planning.typed_row.Goals as goal

pub returns-in-Typed-clause-arity : goal.returns-in-Typed-clause-arity
returns-in-Typed-clause-arity c = c.in_ok-row.ensures.arity ∙ ap Some (sym (typed_roles c.args.op (row_of c.in_ok-row.row.now) (sym c.in_ok-row.ensures.row) c.in-Typed.is))

pub returns-in-Typed-clause-few : goal.returns-in-Typed-clause-few
returns-in-Typed-clause-few c = few_roles c.args.op (row_of c.in_ok-row.row.now) (sym c.in_ok-row.ensures.row)

pub returns-in-Typed-clause-fits : goal.returns-in-Typed-clause-fits
returns-in-Typed-clause-fits c = fitting c.args.op (row_of c.in_ok-row.row.now) (sym c.in_ok-row.ensures.row)
