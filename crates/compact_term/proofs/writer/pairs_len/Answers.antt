use Rattle.std.proofs.Common.{arith}
use Rattle.compact_term.proofs.Written.{pairs_within}
use Rattle.compact_term.proofs.writer.pairs_len.Goals as goal

pub overflow_add-len-in-loop-kind : goal.overflow_add-len-in-loop-kind
overflow_add-len-in-loop-kind c =
    let within = pairs_within c.args.pairs.now c.loop-kind.kind-index (0, 0) c.loop-kind-test.true in
    let kind = c.natural_len.ensures.value 0 in
    let amount = c.natural_len-in-loop-kind.ensures.value 0 in
    record { fits = omega arith }
