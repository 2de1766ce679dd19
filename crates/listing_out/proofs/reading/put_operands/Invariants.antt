use Rattle.std.proofs.Common.{◌≡◌, ◌-◌, [], false}
use Rattle.bk_codec.specs.Reading.{many_at}
use Rattle.bk_base.specs.Place.{end_of}
use Rattle.code_chunk.specs.Reading.{operand_in}
use Rattle.listing_out.specs.Reading.{operands_behind}
use Rattle.listing_out.proofs.reading.put_operands.Given as goal

abbrev pub invariant-loop-place : goal.invariant-loop-place
invariant-loop-place l = record {
  put : operands_behind l.names l.row.op l.place l.any l.out.items l.comment.items (many_at (operand_in (end_of l.fn.cur)) (l.row.arity - l.place) l.cur.rest)
      ≡ operands_behind l.names l.row.op 0 false l.fn.out.items [] (many_at (operand_in (end_of l.fn.cur)) l.row.arity l.fn.cur.rest);
  same : end_of l.cur ≡ end_of l.fn.cur;
}
