use Rattle.std.proofs.Common.{◌≡◌, arith}
use Rattle.flow_rules.proofs.Arriving.{terms}
use Rattle.flow_rules.proofs.flow.arguments.Goals as goal

pub returns : goal.returns
returns c =
    let all : c.loop.counter ≡ c.args.arity = omega arith in
    rw (c.loop.invariant, all) (terms c.args.arity)
