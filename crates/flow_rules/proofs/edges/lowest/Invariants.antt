use Rattle.std.proofs.Common.{◌≡◌, drop}
use Rattle.reg_state.specs.States.{slots_of}
use Rattle.flow_rules.specs.KnownEdges.{lowest}
use Rattle.flow_rules.proofs.edges.lowest.Given as goal

abbrev pub invariant-loop-slot : goal.invariant-loop-slot
invariant-loop-slot l = lowest (slots_of l.slots) ≡ lowest (slots_of (drop l.slot-index l.slots))
