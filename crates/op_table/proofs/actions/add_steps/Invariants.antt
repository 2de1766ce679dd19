use Rattle.std.proofs.Common.{◌≡◌, ◌++◌, drop}
use Rattle.std.specs.List.{flat_map}
use Rattle.op_table.specs.Planned.{actions}
use Rattle.op_table.proofs.actions.add_steps.Given as goal

abbrev pub invariant-loop-step : goal.invariant-loop-step
invariant-loop-step l = l.fn.list ++ flat_map (actions l.roles l.operands) l.steps ≡ l.list ++ flat_map (actions l.roles l.operands) (drop l.step-index l.steps)
