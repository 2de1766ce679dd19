use Rattle.std.proofs.Common.{◌≡◌, ◌⊎◌, ◌+◌, ◌-◌, ◌*◌, ◌<◌, ◌≤◌, [], length, sum_by}
use Rattle.label_fixpoint.specs.Progress.{Progress, weight}
use Rattle.label_fixpoint.proofs.solving.solve.Given as goal

abbrev pub invariant-loop-place : goal.invariant-loop-place
invariant-loop-place g l = record {
  progress : Progress (g.F.Flow.meaning l.flow) l.states.items l.agenda [];
  empty : l.edges ≡ [];
  grows : l.fn.steps ≤ l.steps;
  count : l.steps + length l.agenda.1 ≤ l.fn.steps + sum_by (weight (g.F.Flow.meaning l.flow)) l.states.items;
  begun : (l.fn.steps < l.steps) ⊎ (0 < length l.agenda.1);
}

abbrev pub decreases-loop-place : goal.decreases-loop-place
decreases-loop-place g l = l.fn.steps + (g.F.Flow.meaning l.flow).place_count * (g.F.Flow.meaning l.flow).height - l.steps
