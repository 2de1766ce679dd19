use Rattle.std.proofs.Common.{◌∙◌, ◌<◌, ◌≢◌, length, ap, below_more, length-set, get_or-set_same, get_or-set_other, arith}
use Rattle.reg_state.proofs.join.join_kinds.Goals as goal

pub loop-i-preserved : goal.loop-i-preserved
loop-i-preserved c =
    let inside : c.loop-i.i < length c.loop-i.a = omega (arith, c.loop-i.invariant.size) in
    let here = c.loop-i.invariant.left c.loop-i.i (omega arith) in
    record {
      size = ap length c.set.ensures ∙ length-set c.loop-i.a c.loop-i.i c.joined_kind-joined.result ∙ c.loop-i.invariant.size;
      done =
          rw c.set.ensures
          (below_more _ _
          (λ k before. let ne : k ≢ c.loop-i.i = omega arith in rw get_or-set_other (c.loop-i.invariant.done k before))
          (rw get_or-set_same (cc)));
      left = λ k after. let ne : k ≢ c.loop-i.i = omega arith in rw (c.set.ensures, get_or-set_other) (c.loop-i.invariant.left k (omega arith));
    }
