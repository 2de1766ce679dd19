use Rattle.std.proofs.Common.{length}
use Rattle.std.proofs.lemmas.Result.{err_from_is_err_and}
use Rattle.side_tables.specs.LineReading.{place_at}
use Rattle.side_tables.proofs.LineLoop.{reads_none}
use Rattle.side_tables.proofs.line_reading.place.Goals as goal

pub returns-in_err-line : goal.returns-in_err-line
returns-in_err-line c =
    let p = err_from_is_err_and c.from_residual.result c.from_residual.ensures.1 in
    rw (p.1, p.2) (reads_none c.args.files c.items.current c.items.items.item c.items.items.rest c.in_err-line.field-0.0
    (place_at c.args.files (length c.args.items.now.rest) c.args.file c.args.items.now.item c.args.items.now.rest) c.items.invariant c.in_err-line.ensures.read)
