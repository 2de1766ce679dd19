-- How runs of small modules begin, and the states in them.
use Rattle.std.proofs.Common.{◌≡◌, ℕ, zero, suc, ◌<◌, ◌≤◌, ◌↔◌, true, Some, None, Ok, List, [], length, refl, arith}
use Rattle.bk_base.specs.declared.tag_kind.TagKind.TheVariants.{Try}
use Rattle.op_table.specs.Instruction.{Instruction}
use Rattle.reg_state.specs.Store.{SlotOf}
use Rattle.reg_state.specs.Store.SlotOf.{Holds, Tagged}
use Rattle.reg_state.specs.Store.FrameOf.{Absent, Slots}
use Rattle.func_split.specs.Functions.{IsSplit, IsSplitCode, SplitValue}
use Rattle.func_split.specs.Reading.{split_of}
use Rattle.action_rules.specs.Effects.{first_kept}
use Rattle.flow_rules.specs.Values.{Contents, Frame, is_term, values}
use Rattle.flow_rules.specs.Values.Value.{Term}
use Rattle.flow_rules.specs.Machine.{Machine}
use Rattle.flow_rules.specs.Outcomes.{Choice, alone, bare}
use Rattle.flow_rules.specs.Outcomes.Way.{Done}
use Rattle.flow_rules.specs.Runs.{IsFirst}
use Rattle.flow_rules.specs.Examples.{function_with, module_with}

-- ---- code

-- code is split as it has to be where it splits into itself
pub code_split : ((labels count : ℕ) (code : List Instruction) (s : SplitValue) → (split_of labels count code ≡ Ok s) ↔ IsSplitCode labels count code s)
    → (s : SplitValue) → split_of s.labels (length s.functions) s.instrs ≡ Ok s → IsSplit s.labels s.instrs s.functions
code_split law s e = ((law s.labels (length s.functions) s.instrs s).0 e).split

-- ---- states

-- a term in x0
abbrev pub one : ℕ → Contents
one = alone (Some (Term 0))

abbrev pub stands : ℕ → (ℕ → Contents) → Frame → Machine
stands place x frame = record { place = place; local = bare x frame; waiting = [] }

-- at the entry label
abbrev pub start : Machine
start = stands 2 one Absent

-- where the body begins
abbrev pub inside : Machine
inside = stands 3 one Absent

-- behind an `allocate` that keeps x0
abbrev pub framed : ℕ → List (SlotOf Contents) → Machine
framed place slots = stands place (first_kept values 1 one) (Slots slots)

abbrev pub empty : SlotOf Contents
empty = Holds None

-- with the handler at label 3
abbrev pub tagged : SlotOf Contents
tagged = Tagged 3 Try

-- ---- runs

one_argument : (arity i : ℕ) → arity ≤ 1 → i < arity → is_term (alone (Some (Term 0)) i) ≡ true
one_argument arity zero few below = refl
one_argument arity (suc i) few below = absurd (omega arith)

pub starts : (arity : ℕ) (body : List Instruction) (labels : ℕ) → arity ≤ 1 → IsFirst (module_with arity body labels) start
starts arity body labels few = record {
  number = 0;
  function = function_with arity body;
  is_there = refl;
  place = refl;
  arguments = λ i. one_argument arity i few;
  frame = refl;
  words = refl;
  funs = refl;
  waiting = refl;
}

-- all is done, and the terms that are written are 0
abbrev pub done : Choice
done = record { way = Done; terms = [] }
