-- What actions need of states and do to them.
use Rattle.std.specs.Prelude.{◌<◌, List, [], length, Option}
use Rattle.reg_state.specs.declared.kind.Kind.{Kind}
use Rattle.reg_state.specs.Store.{FrameOf}
use Rattle.reg_state.specs.Store.FrameOf.{Absent, Slots, Unknown}
use Rattle.reg_state.specs.States.{Known}
use Rattle.op_table.specs.declared.action.Action.{Action}
use Rattle.action_rules.specs.declared.reason.Reason.{Reason}
use Rattle.action_rules.specs.Effects.{effect, effects}
use Rattle.action_rules.specs.Needs.{need}
use Rattle.action_rules.specs.KindDomain.{kinds}

abbrev pub known_need : Action → Known → Option Reason
known_need a s = need kinds a s

abbrev pub known_effect : Action → Known → Known
known_effect a s = effect kinds a [] s

abbrev pub known_effects : List Action → Known → Known
known_effects list s = effects kinds list [] s

-- the numbers of the slots fit into 32 bits
abbrev pub HasFewSlots : FrameOf Kind (Unit {0}) → Type 0
HasFewSlots Absent = Unit {0}
HasFewSlots (Slots ss) = length ss < 4_294_967_296
HasFewSlots (Unknown why) = Unit {0}
