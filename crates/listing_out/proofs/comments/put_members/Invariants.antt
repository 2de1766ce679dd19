use Rattle.std.proofs.Common.{false, take}
use Rattle.std.specs.List.{flat_map}
use Rattle.listing_out.specs.Comments.{called, item_of}
use Rattle.listing_out.proofs.Items.{ItemsPut}
use Rattle.listing_out.proofs.comments.put_members.Given as goal

abbrev pub invariant-loop-plain : goal.invariant-loop-plain
invariant-loop-plain l = ItemsPut l.any (flat_map (λ plain. item_of (called l.names false plain)) (take l.plain-index l.members)) l.fn.out.items l.out.items l.some
