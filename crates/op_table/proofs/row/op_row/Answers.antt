use Rattle.std.proofs.Common.{◌≡◌, ◌<◌, ◌+◌, arith}
use Rattle.std.specs.Option.{option_map, option_copied}
use Rattle.op_table.specs.Table.{row_of, row_with}
use Rattle.op_table.proofs.Numbered.{row_with-place, row_with-none, copied_at, arity_in, roles_are}
use Rattle.op_table.proofs.row.op_row.Goals as goal

pub returns-in_err-index-clause-row : goal.returns-in_err-index-clause-row
returns-in_err-index-clause-row c =
    let e = c.from.ensures in
    let below : c.args.op < 1 = omega (arith, c.in_err-index.ensures) in
    rw c.from_residual.ensures (row_with-none c.args.op below)

row : (c : goal.After-get) → option_map row_of (option_copied c.get.result) ≡ row_with c.args.op
row c =
    let e = c.from.ensures in
    let index = c.in_ok-index.ensures in
    let place : c.args.op ≡ c.in_ok-index.index + 1 = omega arith in
    let copied = copied_at c.rows.result.now c.in_ok-index.index c.get.result c.get.ensures.lookup in
    rw copied (row_with-place c.args.op c.in_ok-index.index c.rows.result.now place c.rows.ensures.rows)

pub returns-clause-row : goal.returns-clause-row
returns-clause-row c = row c

pub returns-clause-arity : goal.returns-clause-arity
returns-clause-arity c = arity_in c.args.op c.get.result (row c)

pub returns-clause-roles : goal.returns-clause-roles
returns-clause-roles c = roles_are c.args.op c.get.result (row c)
