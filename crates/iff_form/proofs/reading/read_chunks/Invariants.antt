use Rattle.std.proofs.Common.{length, drop}
use Rattle.iff_form.proofs.Loop.{Walks}
use Rattle.iff_form.proofs.reading.read_chunks.Given as goal

abbrev pub invariant-chunks : goal.invariant-chunks
invariant-chunks l = Walks (length l.bytes) (drop 12 l.bytes) l.cursor.rest l.cursor.offset l.chunks.items l.seen.keys

abbrev pub decreases-chunks : goal.decreases-chunks
decreases-chunks l = length l.cursor.rest
