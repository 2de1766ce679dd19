use Rattle.std.proofs.Common.{◌≡◌, ◌++◌, take}
use Rattle.op_table.specs.Rules.{tag_labels}
use Rattle.flow_rules.proofs.making.add_handlers.Given as goal

abbrev pub invariant-actions : goal.invariant-actions
invariant-actions l = l.handlers ≡ l.fn.handlers ++ tag_labels (take l.action-index l.actions)
