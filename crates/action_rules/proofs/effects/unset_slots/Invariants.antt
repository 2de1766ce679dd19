use Rattle.std.proofs.Common.{◌≡◌, replicate}
use Rattle.reg_state.specs.declared.kind.Kind.TheVariants.{Unset}
use Rattle.reg_state.specs.declared.state.Slot.TheVariants.{Is}
use Rattle.action_rules.proofs.effects.unset_slots.Given as goal

abbrev pub invariant-loop : goal.invariant-loop
invariant-loop l = l.slots ≡ replicate l.counter (Is Unset)
