use Rattle.std.proofs.Common.{◌≡◌, replicate}
use Rattle.reg_state.specs.declared.kind.Kind.TheVariants.{Term}
use Rattle.flow_rules.proofs.flow.arguments.Given as goal

abbrev pub invariant-loop : goal.invariant-loop
invariant-loop l = l.x ≡ replicate l.counter Term
