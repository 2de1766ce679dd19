use Rattle.std.proofs.Common.{◌≡◌, ◌-◌, ◌+◌, ◌*◌}
use Rattle.bk_codec.specs.Reading.{many_at}
use Rattle.bk_codec.proofs.Loop.{with_front}
use Rattle.bk_base.specs.Place.{end_of}
use Rattle.ext_term.specs.Reading.{pair_at, term_at}
use Rattle.ext_term.proofs.reading.+reading.Given as goal

abbrev pub decreases-term : goal.decreases-term
decreases-term l = 5 * l.levels

abbrev pub decreases-terms : goal.decreases-terms
decreases-terms l = 5 * l.levels + 1

abbrev pub decreases-pair : goal.decreases-pair
decreases-pair l = 5 * l.levels + 1

abbrev pub decreases-pairs : goal.decreases-pairs
decreases-pairs l = 5 * l.levels + 2

abbrev pub decreases-nested : goal.decreases-nested
decreases-nested l = 5 * l.levels + 3

abbrev pub decreases-tagged : goal.decreases-tagged
decreases-tagged l = 5 * l.levels + 4

abbrev pub invariant-terms-loop : goal.invariant-terms-loop
invariant-terms-loop l = record {
  read : with_front l.items.items (many_at (term_at (end_of l.fn.cur) l.levels) (l.count - l.counter) l.cur.rest) ≡ many_at (term_at (end_of l.fn.cur) l.levels) l.count l.fn.cur.rest;
  same : end_of l.cur ≡ end_of l.fn.cur;
}

abbrev pub invariant-pairs-loop : goal.invariant-pairs-loop
invariant-pairs-loop l = record {
  read : with_front l.pairs.items (many_at (pair_at (term_at (end_of l.fn.cur) l.levels)) (l.count - l.counter) l.cur.rest) ≡ many_at (pair_at (term_at (end_of l.fn.cur) l.levels)) l.count l.fn.cur.rest;
  same : end_of l.cur ≡ end_of l.fn.cur;
}
