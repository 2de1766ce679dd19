use Rattle.std.proofs.Common.{◌≡◌, ◌≤◌, length}
use Rattle.label_fixpoint.specs.Heads.{heads_by, numbers_by}
use Rattle.flow_rules.specs.Blocks.{marks_in}
use Rattle.flow_rules.specs.Starts.{begins}
use Rattle.flow_rules.proofs.block_flow.BlockFlow.new.Given as goal

abbrev pub invariant-instrs : goal.invariant-instrs
invariant-instrs l = record {
  within : l.place ≤ length l.f.function.instrs;
  heads_so_far : l.heads ≡ heads_by (begins (marks_in l.f)) l.place;
  numbers_so_far : l.numbers ≡ numbers_by (begins (marks_in l.f)) l.place;
}
