use Rattle.std.proofs.Common.{◌∙◌, ap, length-append, arith}
use Rattle.reg_state.specs.States.{x_of}
use Rattle.action_rules.proofs.Registers.{pushed}
use Rattle.action_rules.proofs.effects.reach.Goals as goal

pub loop-preserved : goal.loop-preserved
loop-preserved c = record {
  same = ap x_of c.in_ok-push.ensures.ok ∙ pushed c.loop.x ∙ c.loop.invariant.same;
  reached = rw (c.in_ok-push.ensures.ok, length-append) (omega arith);
}
