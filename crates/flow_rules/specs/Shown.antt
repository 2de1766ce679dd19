-- What a run of a small module comes to by given choices.
use Rattle.std.specs.Prelude.{◌≡◌, ℕ, Option, Some, None, List, [], ◌∷◌, slice_index_or}
use Rattle.reg_state.specs.Store.FrameOf.{Absent}
use Rattle.reg_state.specs.Store.SlotOf.{Holds}
use Rattle.reg_state.specs.Store.{SlotOf}
use Rattle.func_split.specs.Functions.{IsSplit}
use Rattle.beam_module.specs.Module.{ModuleValue}
use Rattle.action_rules.specs.declared.reason.Reason.{Reason}
use Rattle.flow_rules.specs.Values.{Contents, Frame}
use Rattle.flow_rules.specs.Values.Value.{Term}
use Rattle.flow_rules.specs.Machine.{Activation, Machine, stop}
use Rattle.flow_rules.specs.Outcomes.{Choice, Outcome, Way, outcome}
use Rattle.flow_rules.specs.Outcomes.Outcome.{Goes, Ends, Never}
use Rattle.flow_rules.specs.Runs.{AreSteps, IsFirst}

-- ---- states

abbrev pub term : ℕ → Contents
term number = Some (Term number)

-- a slot with a term
abbrev pub filled : ℕ → SlotOf Contents
filled number = Holds (term number)

-- a slot with nothing
abbrev pub blank : SlotOf Contents
blank = Holds None

-- at a place, with the first registers, nothing in the others, and so many words reserved
abbrev pub standing_with : ℕ → ℕ → List Contents → Frame → List Activation → Machine
standing_with words place registers frame waiting = record {
  place = place;
  local = record { x = λ i. slice_index_or registers i None; frame = frame; words = words; funs = 0 };
  waiting = waiting;
}

abbrev pub standing : ℕ → List Contents → Frame → List Activation → Machine
standing = standing_with 0

-- at the entry label of the first function, with these first registers
abbrev pub starting : List Contents → Machine
starting registers = standing 2 registers Absent []

-- the same state, register by register
pub record IsAlike (s t : Machine) : Type 0 where
  pub place : s.place ≡ t.place
  pub x : (i : ℕ) → s.local.x i ≡ t.local.x i
  pub frame : s.local.frame ≡ t.local.frame
  pub words : s.local.words ≡ t.local.words
  pub funs : s.local.funs ≡ t.local.funs
  pub waiting : s.waiting ≡ t.waiting

abbrev pub AreAlike : Outcome → Outcome → Type 0
AreAlike (Goes s) (Goes t) = IsAlike s t
AreAlike Ends Ends = Unit {0}
AreAlike _ _ = ⊥

-- ---- choices

-- all is done, and these terms are written
abbrev pub writes : List ℕ → Choice
writes terms = record { way = Way.Done; terms = terms }

abbrev pub on : Choice
on = writes []

abbrev pub jump_to : ℕ → Choice
jump_to k = record { way = Way.Jump k; terms = [] }

abbrev pub fail_to : ℕ → Choice
fail_to k = record { way = Way.Fail k; terms = [] }

abbrev pub raise : Choice
raise = record { way = Way.Raise; terms = [] }

-- ---- runs

-- nothing can happen to a state that is stuck
abbrev pub free_only : Option Reason → Outcome → Outcome
free_only None o = o
free_only (Some why) o = Never

-- by these choices, one after another
abbrev pub led : ModuleValue → List Choice → Outcome → Outcome
led m [] o = o
led m (c ∷ choices) (Goes s) = led m choices (free_only (stop m s) (outcome m s c))
led m (c ∷ choices) Ends = Never
led m (c ∷ choices) Never = Never

-- s, or the last of the states behind it
abbrev pub last_of : Machine → List Machine → Machine
last_of s [] = s
last_of s (t ∷ states) = last_of t states

-- some steps lead from one state to the other
pub record Reaches (m : ModuleValue) (s t : Machine) : Type 0 where
  pub states : List Machine
  pub steps : AreSteps m s states
  pub last_is : last_of s states ≡ t

-- the code is split as it has to be, and the run that begins with these registers comes by these choices to this outcome
pub record Shows (m : ModuleValue) (registers : List Contents) (choices : List Choice) (o : Outcome) : Type 0 where
  pub split : IsSplit m.code.labels m.code.instrs m.code.functions
  pub is_first : IsFirst m (starting registers)
  pub comes : AreAlike (led m choices (Goes (starting registers))) o

-- the run comes to a state that is stuck for this reason
pub record Sticks (m : ModuleValue) (registers : List Contents) (choices : List Choice) (why : Reason) : Type 0 where
  pub split : IsSplit m.code.labels m.code.instrs m.code.functions
  pub is_first : IsFirst m (starting registers)
  pub last : Machine
  pub comes : led m choices (Goes (starting registers)) ≡ Goes last
  pub is_stuck : stop m last ≡ Some why
