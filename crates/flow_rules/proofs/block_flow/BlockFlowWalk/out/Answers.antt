use Rattle.std.proofs.Common.{◌<◌, arith, subst}
use Rattle.std.proofs.lemmas.Result.{on_err_weaker, on_ok_weaker}
use Rattle.reg_state.specs.declared.state.State.{State}
use Rattle.reg_state.specs.States.{store_of}
use Rattle.label_fixpoint.specs.Cut.{size_of}
use Rattle.flow_rules.specs.Blocks.{cut_of, known_block_edges, marks_in}
use Rattle.flow_rules.specs.FlowBody.{body_of}
use Rattle.flow_rules.specs.Gaining.{Gains, GainsPart}
use Rattle.flow_rules.proofs.BlockAppended.{block_appends, block_appends_part}
use Rattle.flow_rules.proofs.Walked.{block_rises}
use Rattle.flow_rules.proofs.block_flow.BlockFlowWalk.out.Goals as goal

pub returns-clause-ok : goal.returns-clause-ok
returns-clause-ok g c =
    let f = c.args.self.now.flow.now in
    let rises = block_rises f c.args.block c.requires.place in
    let long : 0 < size_of (cut_of (body_of f) (marks_in f)) c.args.block = omega (arith, rises) in
    on_ok_weaker c.walk.result
    (λ gains.
    block_appends (body_of f) (marks_in f) f.fits c.args.block c.args.s.now long c.requires.fit c.args.edges.now c.walk.new.edges
    (subst (λ (s : State). Gains c.args.edges.now (known_block_edges (body_of f) (marks_in f) c.args.block (store_of s)) c.walk.new.edges) c.in_ok-first.ensures gains))
    c.walk.ensures.ok

pub returns-clause-err : goal.returns-clause-err
returns-clause-err g c =
    let f = c.args.self.now.flow.now in
    let rises = block_rises f c.args.block c.requires.place in
    let long : 0 < size_of (cut_of (body_of f) (marks_in f)) c.args.block = omega (arith, rises) in
    on_err_weaker c.walk.result
    (λ gains.
    block_appends_part (body_of f) (marks_in f) f.fits c.args.block c.args.s.now long c.requires.fit c.args.edges.now c.walk.new.edges
    (subst (λ (s : State). GainsPart c.args.edges.now (known_block_edges (body_of f) (marks_in f) c.args.block (store_of s)) c.walk.new.edges) c.in_ok-first.ensures gains))
    c.walk.ensures.err
