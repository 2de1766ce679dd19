use Rattle.std.proofs.Common.{take}
use Rattle.reg_state.specs.States.{store_of}
use Rattle.flow_rules.specs.FlowBody.{body_of}
use Rattle.flow_rules.specs.Blocks.{numbered}
use Rattle.flow_rules.specs.Gaining.{Gains}
use Rattle.flow_rules.specs.KnownEdges.{edges_to}
use Rattle.flow_rules.proofs.fn_flow.FnFlow.add_edges.Given as goal

abbrev pub invariant-loop-label : goal.invariant-loop-label
invariant-loop-label l = Gains l.fn.edges (edges_to (numbered l.numbers (body_of l.self)).place (take l.label-index l.labels) (store_of l.s)) l.edges
