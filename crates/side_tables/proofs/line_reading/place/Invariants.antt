use Rattle.std.proofs.Common.{length}
use Rattle.side_tables.specs.LineReading.{place_at}
use Rattle.side_tables.proofs.LineLoop.{StillReads}
use Rattle.side_tables.proofs.line_reading.place.Given as goal

abbrev pub invariant-items : goal.invariant-items
invariant-items l = StillReads l.files l.current l.items.item l.items.rest (place_at l.files (length l.fn.items.rest) l.file l.fn.items.item l.fn.items.rest)

abbrev pub decreases-items : goal.decreases-items
decreases-items l = length l.items.rest
