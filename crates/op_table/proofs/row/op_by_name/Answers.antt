use Rattle.std.proofs.Common.{◌≡◌, rules, tests}
use Rattle.std.specs.Option.{option_map, option_copied}
use Rattle.std.specs.Str.{bytes_eq}
use Rattle.op_table.specs.declared.row.OpRow.{OpRow}
use Rattle.op_table.specs.Table.{row_of, row_named}
use Rattle.std.proofs.lemmas.Iterator.{YieldsList-from_slice}
use Rattle.std.proofs.lemmas.Iterator.Search.{find_from_yields_List}
use Rattle.op_table.proofs.Named.{found_row, named_arity, none_named}
use Rattle.op_table.proofs.row.op_by_name.Goals as goal

row : (c : goal.After-find) → option_map row_of (option_copied c.find.result) ≡ row_named c.args.name.now
row c =
    let rows = YieldsList-from_slice c.rows.result.now cc in
    let found = find_from_yields_List (λ (r : OpRow). bytes_eq r.name.now c.args.name.now) _ _ c.find.result c.find.ensures.ran rows (λ x b q k. search (rules, tests)) in
    found_row c.args.name.now c.rows.result.now (option_copied c.find.result) c.rows.ensures.rows found

pub returns-clause-row : goal.returns-clause-row
returns-clause-row c = row c

pub returns-clause-arity : goal.returns-clause-arity
returns-clause-arity c = named_arity c.args.name.now c.find.result (row c)

pub returns-clause-none : goal.returns-clause-none
returns-clause-none c = none_named c.args.name.now c.find.result (row c)
