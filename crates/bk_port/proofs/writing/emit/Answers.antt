use Rattle.std.proofs.Common.{arith}
use Rattle.std.proofs.lemmas.Grind.{common_steps}
use Rattle.bk_port.proofs.Sent.{sent_more}
use Rattle.bk_port.proofs.writing.emit.Goals as goal

pub loop-rest-preserved : goal.loop-rest-preserved
loop-rest-preserved g c = record {
  sent = sent_more _ _ _ _ _ _ _ c.loop-rest.invariant.sent c.in-Ok.ensures.written.bytes (grind (arith, common_steps));
  later = omega arith;
}
