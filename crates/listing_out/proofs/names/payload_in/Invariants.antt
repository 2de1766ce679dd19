use Rattle.std.proofs.Common.{◌≡◌, drop}
use Rattle.listing_out.specs.Comments.{payload_in}
use Rattle.listing_out.proofs.names.payload_in.Given as goal

abbrev pub invariant-loop-id : goal.invariant-loop-id
invariant-loop-id l = payload_in l.wanted.0 (drop l.id-index l.id-items) ≡ payload_in l.wanted.0 l.id-items
