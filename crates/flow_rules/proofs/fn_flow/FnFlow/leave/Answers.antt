use Rattle.std.proofs.Common.{sym}
use Rattle.reg_state.specs.States.{store_of}
use Rattle.flow_rules.specs.Blocks.{numbered}
use Rattle.flow_rules.specs.FlowBody.{body_of}
use Rattle.flow_rules.proofs.Added.{on_err}
use Rattle.flow_rules.proofs.Followed.{fails_part, raises_part}
use Rattle.flow_rules.proofs.fn_flow.FnFlow.leave.Goals as goal

pub returns-in_err-add_edges-clause-err : goal.returns-in_err-add_edges-clause-err
returns-in_err-add_edges-clause-err c =
    on_err c.from_residual.result (fails_part (numbered c.args.numbers.now (body_of c.args.self.now)) c.args.plan.now (store_of c.args.s.now) c.args.edges.now c.add_edges.new.edges (rw (← c.as_slice.ensures) c.in_err-add_edges.ensures.err))

pub returns-in_err-add_raises-clause-err : goal.returns-in_err-add_raises-clause-err
returns-in_err-add_raises-clause-err c =
    on_err c.from_residual-in_err-add_raises.result
    (raises_part (numbered c.args.numbers.now (body_of c.args.self.now)) c.args.plan.now (store_of c.args.s.now) c.args.edges.now c.add_edges.new.edges c.add_raises.new.edges (sym c.if-may_raise.ensures) (rw (← c.as_slice.ensures) c.in_ok-add_edges.ensures.ok)
    c.in_err-add_raises.ensures.err)
