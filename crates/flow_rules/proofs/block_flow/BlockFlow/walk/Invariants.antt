use Rattle.std.proofs.Common.{◌≤◌, ◌-◌, length}
use Rattle.reg_state.specs.States.{store_of}
use Rattle.label_fixpoint.specs.Cut.{gathered}
use Rattle.label_fixpoint.specs.Heads.{head_at}
use Rattle.flow_rules.specs.Blocks.{known_cut, marks_in}
use Rattle.flow_rules.specs.FlowBody.{body_of}
use Rattle.flow_rules.specs.Gaining.{Gains}
use Rattle.flow_rules.specs.KnownEdges.{goes_at}
use Rattle.flow_rules.specs.Starts.{begins}
use Rattle.flow_rules.proofs.Walked.{Reaches}
use Rattle.flow_rules.proofs.block_flow.BlockFlow.walk.Given as goal

abbrev pub invariant-loop-place : goal.invariant-loop-place
invariant-loop-place l = record {
  high : l.place ≤ l.end;
  reached : Reaches (goes_at (body_of l.self.flow.now)) (head_at (begins (marks_in l.self.flow.now)) (length l.self.flow.now.plans) l.block) l.place (store_of l.fn.first) (store_of l.state);
  gained : Gains l.fn.edges (gathered (goes_at (body_of l.self.flow.now)) (known_cut (body_of l.self.flow.now) (marks_in l.self.flow.now)).jumps (head_at (begins (marks_in l.self.flow.now)) (length l.self.flow.now.plans) l.block) (l.place - head_at (begins (marks_in l.self.flow.now)) (length l.self.flow.now.plans) l.block) (store_of l.fn.first)) l.edges;
}

abbrev pub decreases-loop-place : goal.decreases-loop-place
decreases-loop-place l = l.end - l.place
