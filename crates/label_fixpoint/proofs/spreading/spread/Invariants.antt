use Rattle.std.proofs.Common.{◌≡◌, ◌⊎◌, ◌+◌, ◌<◌, ◌≤◌, length, sum_by}
use Rattle.label_fixpoint.specs.Progress.{Progress, weight}
use Rattle.label_fixpoint.proofs.spreading.spread.Given as goal

abbrev pub invariant-loop-edge : goal.invariant-loop-edge
invariant-loop-edge g l = record {
  progress : Progress (g.F.Flow.meaning l.flow) l.states.items l.agenda l.edges;
  count : length l.agenda.1 + sum_by (weight (g.F.Flow.meaning l.flow)) l.fn.states.items ≤ length l.fn.agenda.1 + sum_by (weight (g.F.Flow.meaning l.flow)) l.states.items;
  begun : (sum_by (weight (g.F.Flow.meaning l.flow)) l.states.items ≡ sum_by (weight (g.F.Flow.meaning l.flow)) l.fn.states.items) ⊎ (0 < length l.agenda.1);
}

abbrev pub decreases-loop-edge : goal.decreases-loop-edge
decreases-loop-edge g l = length l.edges
