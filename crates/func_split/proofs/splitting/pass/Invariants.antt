use Rattle.std.proofs.Common.{drop}
use Rattle.func_split.specs.Marks.{marks_of}
use Rattle.func_split.proofs.Passing.{Passed}
use Rattle.func_split.proofs.splitting.pass.Given as goal

abbrev pub invariant-loop-place : goal.invariant-loop-place
invariant-loop-place l = Passed l.labels (marks_of l.instrs) (marks_of (drop l.place l.instrs)) l.place l.before l.places l.extents.items
