use Rattle.std.proofs.Common.{take, drop}
use Rattle.reg_state.specs.States.{store_of}
use Rattle.flow_rules.specs.FlowBody.{body_of}
use Rattle.flow_rules.specs.Blocks.{numbered}
use Rattle.flow_rules.specs.Gathering.{GainsPart-of}
use Rattle.flow_rules.specs.KnownEdges.{edges_to}
use Rattle.flow_rules.proofs.Added.{cut_at, on_err}
use Rattle.flow_rules.proofs.fn_flow.FnFlow.add_edges.Goals as goal

pub returns-in_err-state-clause-err : goal.returns-in_err-state-clause-err
returns-in_err-state-clause-err c =
    let place = (numbered c.args.numbers.now (body_of c.args.self.now)).place in
    let labels = c.args.labels.now in
    let s = store_of c.args.s.now in
    let i = c.loop-label.label-index in
    on_err c.from_residual.result
    (GainsPart-of c.args.edges.now (edges_to place (take i labels) s) (edges_to place (drop i labels) s) (edges_to place labels s) c.loop-label.edges (cut_at place labels i s) c.loop-label.invariant)

pub returns-in_err-push-clause-err : goal.returns-in_err-push-clause-err
returns-in_err-push-clause-err c =
    let place = (numbered c.args.numbers.now (body_of c.args.self.now)).place in
    let labels = c.args.labels.now in
    let s = store_of c.args.s.now in
    let i = c.loop-label.label-index in
    on_err c.from_residual-in_err-push.result
    (rw c.in_err-push.ensures.err (GainsPart-of c.args.edges.now (edges_to place (take i labels) s) (edges_to place (drop i labels) s) (edges_to place labels s) c.loop-label.edges (cut_at place labels i s) c.loop-label.invariant))
