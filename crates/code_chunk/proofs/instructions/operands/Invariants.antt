use Rattle.std.proofs.Common.{◌≡◌, ◌-◌}
use Rattle.bk_codec.specs.Reading.{many_at}
use Rattle.bk_codec.proofs.Loop.{with_front}
use Rattle.bk_base.specs.Place.{end_of}
use Rattle.code_chunk.specs.Reading.{operand_in}
use Rattle.code_chunk.proofs.instructions.operands.Given as goal

abbrev pub invariant-loop : goal.invariant-loop
invariant-loop l = record {
  read : with_front l.list (many_at (operand_in (end_of l.fn.cur)) (l.arity - l.counter) l.cur.rest) ≡ many_at (operand_in (end_of l.fn.cur)) l.arity l.fn.cur.rest;
  same : end_of l.cur ≡ end_of l.fn.cur;
}
