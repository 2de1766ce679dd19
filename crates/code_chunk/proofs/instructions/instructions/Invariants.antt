use Rattle.std.proofs.Common.{◌≡◌, length}
use Rattle.bk_codec.specs.Reading.{whole_of}
use Rattle.bk_codec.proofs.ToTheEnd.{with_items}
use Rattle.bk_base.specs.Place.{end_of}
use Rattle.code_chunk.proofs.Front.{instr_at}
use Rattle.code_chunk.proofs.instructions.instructions.Given as goal

abbrev pub invariant-instrs : goal.invariant-instrs
invariant-instrs l = record {
  read : with_items l.list (whole_of (instr_at (end_of l.fn.cur)) l.cur.rest) ≡ whole_of (instr_at (end_of l.fn.cur)) l.fn.cur.rest;
  same : end_of l.cur ≡ end_of l.fn.cur;
}

abbrev pub decreases-instrs : goal.decreases-instrs
decreases-instrs l = length l.cur.rest
