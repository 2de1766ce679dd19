use Rattle.std.proofs.Common.{◌≡◌, length}
use Rattle.bk_base.specs.Place.{end_of}
use Rattle.listing_out.specs.Reading.{instrs_behind}
use Rattle.listing_out.proofs.reading.put_instructions.Given as goal

abbrev pub invariant-instrs : goal.invariant-instrs
invariant-instrs l = record {
  put : instrs_behind l.names l.out.items (end_of l.fn.cur) l.cur.rest ≡ instrs_behind l.names l.fn.out.items (end_of l.fn.cur) l.fn.cur.rest;
  same : end_of l.cur ≡ end_of l.fn.cur;
}

abbrev pub decreases-instrs : goal.decreases-instrs
decreases-instrs l = length l.cur.rest
