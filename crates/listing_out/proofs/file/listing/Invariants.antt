use Rattle.std.proofs.Common.{◌≡◌, ◌++◌, take}
use Rattle.std.specs.List.{flat_map}
use Rattle.listing_out.specs.Lines.{text_of}
use Rattle.listing_out.specs.Comments.{commented_chunk}
use Rattle.listing_out.proofs.file.listing.Given as goal

abbrev pub invariant-loop-chunk : goal.invariant-loop-chunk
invariant-loop-chunk l = l.out.items ≡ l.initial.out.items ++ flat_map (λ c. text_of (commented_chunk l.names c)) (take l.chunk-index l.chunk-items)
