use Rattle.std.proofs.Common.{◌≡◌, drop}
use Rattle.iff_form.specs.Chunk.{plains}
use Rattle.listing_out.specs.Reading.{chunks_behind}
use Rattle.listing_out.proofs.reading.file_listing.Given as goal

abbrev pub invariant-loop-chunk : goal.invariant-loop-chunk
invariant-loop-chunk l = chunks_behind l.names l.out.items (plains (drop l.chunk-index l.chunk-items)) ≡ chunks_behind l.names l.initial.out.items (plains l.chunk-items)
