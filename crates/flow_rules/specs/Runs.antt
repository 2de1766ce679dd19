-- Runs of a machine, and that none of them gets stuck.
use Rattle.std.specs.Prelude.{◌≡◌, ◌≢◌, ℕ, ◌+◌, ◌<◌, true, Some, None, List, [], ◌∷◌, slice_get}
use Rattle.std.specs.List.{AllByRecursion}
use Rattle.reg_state.specs.Store.FrameOf.{Absent}
use Rattle.func_split.specs.Functions.{Piece}
use Rattle.beam_module.specs.Module.{ModuleValue}
use Rattle.flow_rules.specs.Values.{is_term}
use Rattle.flow_rules.specs.Machine.{Machine, stop}
use Rattle.flow_rules.specs.Outcomes.{Choice, outcome}
use Rattle.flow_rules.specs.Outcomes.Outcome.{Goes, Never}

-- at the entry of a function, with any terms as its arguments and anything in the other registers, without a frame and with nothing reserved, and no call waits
pub record IsFirst (m : ModuleValue) (s : Machine) : Type 0 where
  pub number : ℕ
  pub function : Piece
  pub is_there : slice_get m.code.functions number ≡ Some function
  pub place : s.place ≡ function.first + function.entry
  pub arguments : (i : ℕ) → i < function.arity → is_term (s.local.x i) ≡ true
  pub frame : s.local.frame ≡ Absent
  pub words : s.local.words ≡ 0
  pub funs : s.local.funs ≡ 0
  pub waiting : s.waiting ≡ []

-- a machine that is not stuck goes on to any state that a choice gives
abbrev pub IsStep : ModuleValue → Machine → Machine → Type 0
IsStep m s t = (stop m s ≡ None) × ((c : Choice) × (outcome m s c ≡ Goes t))

abbrev pub AreSteps : ModuleValue → Machine → List Machine → Type 0
AreSteps m s [] = Unit {0}
AreSteps m s (t ∷ states) = IsStep m s t × AreSteps m t states

-- of any length
abbrev pub IsRun : ModuleValue → List Machine → Type 0
IsRun m [] = Unit {0}
IsRun m (s ∷ states) = IsFirst m s × AreSteps m s states

-- another state, or the end of the run
abbrev pub HasOutcome : ModuleValue → Machine → Type 0
HasOutcome m s = (c : Choice) × (outcome m s c ≢ Never)

-- no state of any run is stuck
unfoldable pub NeverStuck : ModuleValue → Type 0
NeverStuck m = (states : List Machine) → IsRun m states → AllByRecursion (λ s. stop m s ≡ None) states
