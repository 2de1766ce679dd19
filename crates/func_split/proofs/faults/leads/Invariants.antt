use Rattle.std.proofs.Common.{◌≡◌, drop}
use Rattle.func_split.specs.Faults.{leads}
use Rattle.func_split.specs.Marks.{marks_of}
use Rattle.func_split.proofs.faults.leads.Given as goal

abbrev pub invariant-loop-instr : goal.invariant-loop-instr
invariant-loop-instr l = leads (marks_of (drop l.instr-index l.rest)) ≡ leads (marks_of l.rest)
