use Rattle.std.proofs.Common.{◌≡◌, ◌≤◌, None, replicate}
use Rattle.label_fixpoint.proofs.solving.untyped.Given as goal

abbrev pub invariant-loop : goal.invariant-loop
invariant-loop g l = (l.states.items ≡ replicate l.counter None) × (l.counter ≤ l.places)
