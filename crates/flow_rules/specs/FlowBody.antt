-- What a flow in memory says: its body, and what its places need.
use Rattle.std.specs.Prelude.{ℕ, ◌+◌, Option, Some, None, option_map, slice_get}
use Rattle.op_table.specs.declared.plans.Plan.{Plan}
use Rattle.reg_state.specs.States.{Known}
use Rattle.action_rules.specs.declared.reason.Reason.{Reason}
use Rattle.action_rules.specs.KindDomain.{kinds}
use Rattle.action_rules.specs.Needs.{plan_need}
use Rattle.code_faults.specs.declared.fault.Fault.{Fault}
use Rattle.code_faults.specs.Faults.{fault_at}
use Rattle.code_faults.specs.Registers.{x_bound}
use Rattle.flow_rules.specs.declared.fn_flow.FnFlow.{FnFlow}
use Rattle.flow_rules.specs.Body.{Body, body_from}
use Rattle.flow_rules.specs.KnownEdges.{has_next}
use Rattle.flow_rules.specs.Making.{y_bound}

abbrev pub body_of : FnFlow → Body
body_of f = body_from f.function f.plans f.handlers (x_bound f.function) (y_bound f.plans)

abbrev pub need_by : Body → ℕ → Option Plan → Known → Option Reason
need_by b place None s = None
need_by b place (Some p) s = plan_need kinds (has_next b place) p s

-- the first need of the instruction at a place that fails
abbrev pub need_at : Body → ℕ → Known → Option Reason
need_at b place s = need_by b place (slice_get b.plans place) s

abbrev pub checked : FnFlow → ℕ → Known → Option Fault
checked f place s = option_map (fault_at f.number (f.function.first + place)) (need_at (body_of f) place s)
