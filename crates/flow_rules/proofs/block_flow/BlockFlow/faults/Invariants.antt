use Rattle.std.proofs.Common.{◌≡◌, ◌≤◌, ◌+◌, ◌-◌, ◌++◌, length}
use Rattle.reg_state.specs.States.{store_of}
use Rattle.label_fixpoint.specs.Cut.{gathered}
use Rattle.label_fixpoint.specs.Heads.{head_at}
use Rattle.code_faults.specs.Faults.{faults_at}
use Rattle.flow_rules.specs.Blocks.{marks_in}
use Rattle.flow_rules.specs.Flow.{FitsBody}
use Rattle.flow_rules.specs.FlowBody.{body_of, need_at}
use Rattle.flow_rules.specs.KnownEdges.{goes_at}
use Rattle.flow_rules.specs.Starts.{begins}
use Rattle.flow_rules.proofs.Walked.{Reaches}
use Rattle.flow_rules.proofs.block_flow.BlockFlow.faults.Given as goal

abbrev pub invariant-loop-place : goal.invariant-loop-place
invariant-loop-place l = record {
  high : l.place ≤ l.end;
  reached : Reaches (goes_at (body_of l.self.flow.now)) (head_at (begins (marks_in l.self.flow.now)) (length l.self.flow.now.plans) l.block) l.place (store_of l.s) (store_of l.state);
  told : FitsBody (body_of l.self.flow.now) l.s → l.out ≡ l.fn.out ++ gathered (goes_at (body_of l.self.flow.now)) (λ place known. faults_at l.self.flow.now.number (l.self.flow.now.function.first + place) (need_at (body_of l.self.flow.now) place known))
      (head_at (begins (marks_in l.self.flow.now)) (length l.self.flow.now.plans) l.block) (l.place - head_at (begins (marks_in l.self.flow.now)) (length l.self.flow.now.plans) l.block) (store_of l.s);
}

abbrev pub decreases-loop-place : goal.decreases-loop-place
decreases-loop-place l = l.end - l.place
