use Rattle.action_rules.proofs.Registers.{placed}
use Rattle.action_rules.proofs.effects.put_x.Goals as goal

pub returns : goal.returns
returns c = rw (c.set.ensures, ← c.in_ok-reach.ensures.same) (placed c.args.n c.reach.new.x c.args.kind c.in_ok-reach.ensures.reached)
