use Rattle.std.proofs.Common.{false, take}
use Rattle.listing_out.specs.Comments.{items_from}
use Rattle.listing_out.proofs.Items.{ItemsPut}
use Rattle.listing_out.proofs.comments.put_comment.Given as goal

abbrev pub invariant-loop-place : goal.invariant-loop-place
invariant-loop-place l = ItemsPut false (items_from l.names l.instr.op 0 (take l.place l.operand-items)) l.fn.out.items l.out.items l.any
