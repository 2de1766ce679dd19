use Rattle.beam_cli.proofs.Printed.{show_printed}
use Rattle.beam_cli.proofs.laws.show_is_exact.Goals as goal

pub returns : goal.returns
returns c =
    let tables = c.reading_is_exact-2.ensures in
    let sides = c.reading_is_exact-3.ensures in
    show_printed tables.atoms tables.imports tables.exports tables.funs sides.lines sides.literals c.reading_is_exact-4.ensures c.reading_is_exact.ensures.exact c.payloads_are_bytes.ensures
