use Rattle.std.proofs.Common.{◌≡◌, replicate}
use Rattle.reg_state.specs.declared.kind.Kind.TheVariants.{Term}
use Rattle.action_rules.proofs.effects.arrive.Given as goal

abbrev pub invariant-loop : goal.invariant-loop
invariant-loop l = record {
  terms : l.s.x ≡ replicate l.counter Term;
  frame : l.s.frame ≡ l.fn.s.frame;
}
