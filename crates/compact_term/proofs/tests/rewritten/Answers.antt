use Rattle.std.proofs.Common.{◌≤◌, length, arith}
use Rattle.compact_term.specs.Canonical.{canonical}
use Rattle.compact_term.proofs.Shortest.{front_is_no_shorter}
use Rattle.compact_term.proofs.tests.rewritten.Goals as goal

pub spelled_len-len-requires-clause-fits : goal.spelled_len-len-requires-clause-fits
spelled_len-len-requires-clause-fits c =
    let shorter : length (canonical c.in_ok-operand.operand) ≤ length c.args.bytes.now = rw c.new.ensures.rest at (front_is_no_shorter c.in_ok-operand.operand _ _ c.in_ok-operand.ensures.found) in
    omega arith
