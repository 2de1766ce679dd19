use Rattle.std.proofs.Common.{List, drop}
use Rattle.func_split.specs.declared.mark.Mark.{Mark}
use Rattle.func_split.specs.Faults.{size_from}
use Rattle.func_split.specs.Fronts.{IsBefore}
use Rattle.func_split.specs.Marks.{marks_of}
use Rattle.func_split.proofs.Passing.{Looked}
use Rattle.func_split.proofs.faults.size_from.Given as goal

abbrev pub invariant-loop-place : goal.invariant-loop-place
invariant-loop-place l = (back : List Mark) → IsBefore l.fn.before back → Looked (size_from back (marks_of l.rest)) (marks_of (drop l.place l.rest)) l.place l.before
