-- What runs of small modules come to, by computing them.
use Rattle.std.proofs.Common.{◌≡◌, ◌∙◌, ◌&&◌, ℕ, zero, suc, ◌+◌, ◌<◌, ◌≤◌, nat_le, ◌↔◌, Bool, true, false, Option, Some, None, Ok, List, [], ◌∷◌, length, refl, sym, arith, ap}
use Rattle.std.specs.List.{list_all, slice_get, slice_index_or}
use Rattle.std.proofs.lemmas.Bool.{and_parts, leb-true}
use Rattle.std.proofs.lemmas.List.{get_or_past}
use Rattle.op_table.specs.Instruction.{Instruction}
use Rattle.func_split.specs.Functions.{IsSplitCode, Piece, SplitValue}
use Rattle.func_split.specs.Reading.{split_of}
use Rattle.beam_module.specs.Module.{ModuleValue}
use Rattle.action_rules.specs.declared.reason.Reason.{Reason}
use Rattle.flow_rules.specs.Values.{Contents, is_term}
use Rattle.flow_rules.specs.Machine.{Machine, stop}
use Rattle.flow_rules.specs.Outcomes.{Choice, Outcome, outcome}
use Rattle.flow_rules.specs.Outcomes.Outcome.{Goes, Ends, Never}
use Rattle.flow_rules.specs.Runs.{IsFirst}
use Rattle.flow_rules.specs.Shown.{AreAlike, IsAlike, Reaches, Shows, Sticks, free_only, led, starting}
use Rattle.flow_rules.proofs.Misused.{code_split}
use Rattle.flow_rules.proofs.Upper.{AreEmpty, IsEmptyAfter, led_empty, low_instr}

-- ---- first states

-- so many terms come first
abbrev terms_first : ℕ → List Contents → Bool
terms_first zero registers = true
terms_first (suc n) [] = false
terms_first (suc n) (a ∷ registers) = is_term a && terms_first n registers

given : (n : ℕ) (registers : List Contents) → terms_first n registers ≡ true → (i : ℕ) → i < n → is_term (slice_index_or registers i None) ≡ true
given zero registers terms i below = absurd (omega arith)
given (suc n) [] terms i below = absurd cc
given (suc n) (a ∷ registers) terms zero below = (and_parts (is_term a) (terms_first n registers) terms).0
given (suc n) (a ∷ registers) terms (suc i) below = given n registers (and_parts (is_term a) (terms_first n registers) terms).1 i (omega arith)

starts : (m : ModuleValue) (registers : List Contents) (f : Piece) → slice_get m.code.functions 0 ≡ Some f → 2 ≡ f.first + f.entry → terms_first f.arity registers ≡ true → IsFirst m (starting registers)
starts m registers f there place terms = record {
  number = 0;
  function = f;
  is_there = there;
  place = place;
  arguments = given f.arity registers terms;
  frame = refl;
  words = refl;
  funs = refl;
  waiting = refl;
}

starts_empty : (registers : List Contents) → nat_le (length registers) 5 ≡ true → AreEmpty (starting registers).local.x
starts_empty registers few i far =
    let short : length registers ≤ 5 = leb-true (length registers) 5 few in
    get_or_past registers i None (omega (arith, short, far))

-- ---- states

pub alike : {s t : Machine} → s.place ≡ t.place → s.local.x 0 ≡ t.local.x 0 → s.local.x 1 ≡ t.local.x 1 → s.local.x 2 ≡ t.local.x 2 → s.local.x 3 ≡ t.local.x 3
    → s.local.x 4 ≡ t.local.x 4 → AreEmpty s.local.x → ((i : ℕ) → t.local.x (suc (suc (suc (suc (suc i))))) ≡ None)
    → s.local.frame ≡ t.local.frame → s.local.words ≡ t.local.words → s.local.funs ≡ t.local.funs → s.waiting ≡ t.waiting → IsAlike s t
alike {s} {t} place x0 x1 x2 x3 x4 empty past frame words funs waiting = record { place = place; x = each; frame = frame; words = words; funs = funs; waiting = waiting } where
  each : (i : ℕ) → s.local.x i ≡ t.local.x i
  each zero = x0
  each (suc zero) = x1
  each (suc (suc zero)) = x2
  each (suc (suc (suc zero))) = x3
  each (suc (suc (suc (suc zero)))) = x4
  each (suc (suc (suc (suc (suc i))))) = empty (suc (suc (suc (suc (suc i))))) (omega arith) ∙ sym (past i)

-- ---- small modules

module _ (law : (labels count : ℕ) (code : List Instruction) (s : SplitValue) → (split_of labels count code ≡ Ok s) ↔ IsSplitCode labels count code s) {m : ModuleValue} {registers : List Contents} {choices : List Choice} where
  pub shown : {o : Outcome} {f : Piece} → split_of m.code.labels (length m.code.functions) m.code.instrs ≡ Ok m.code
      → slice_get m.code.functions 0 ≡ Some f → 2 ≡ f.first + f.entry → terms_first f.arity registers ≡ true
      → list_all (low_instr m) m.code.instrs ≡ true → nat_le (length registers) 5 ≡ true
      → (IsEmptyAfter (led m choices (Goes (starting registers))) → AreAlike (led m choices (Goes (starting registers))) o) → Shows m registers choices o
  shown {o} {f} splits there place terms low few comes = record {
    split = code_split law m.code splits;
    is_first = starts m registers f there place terms;
    comes = comes (led_empty m low choices (Goes (starting registers)) (starts_empty registers few));
  }

  pub stuck : {why : Reason} {f : Piece} {last : Machine} → split_of m.code.labels (length m.code.functions) m.code.instrs ≡ Ok m.code
      → slice_get m.code.functions 0 ≡ Some f → 2 ≡ f.first + f.entry → terms_first f.arity registers ≡ true
      → led m choices (Goes (starting registers)) ≡ Goes last → stop m last ≡ Some why → Sticks m registers choices why
  stuck {why} {f} {last} splits there place terms comes stops = record {
    split = code_split law m.code splits;
    is_first = starts m registers f there place terms;
    last = last;
    comes = comes;
    is_stuck = stops;
  }

-- ---- runs

same_state : (s t : Machine) → Goes s ≡ Goes t → s ≡ t
same_state s t is = ap (λ (o : Outcome). state_of o) is where
  state_of : Outcome → Machine
  state_of (Goes u) = u
  state_of Ends = s
  state_of Never = s

module _ (m : ModuleValue) (t : Machine) where
  goes_nowhere : (choices : List Choice) → led m choices Never ≡ Goes t → ⊥
  goes_nowhere [] is = absurd cc
  goes_nowhere (c ∷ choices) is = absurd cc

  goes_no_further : (choices : List Choice) → led m choices Ends ≡ Goes t → ⊥
  goes_no_further [] is = absurd cc
  goes_no_further (c ∷ choices) is = absurd cc

  pub steps_by : (s : Machine) (choices : List Choice) → led m choices (Goes s) ≡ Goes t → Reaches m s t
  steps_by s [] is = record { states = []; steps = tt; last_is = same_state s t is }
  steps_by s (c ∷ choices) is = go (λ u. steps_by u choices) (stop m s) refl (outcome m s c) refl is where
    go : ((u : Machine) → led m choices (Goes u) ≡ Goes t → Reaches m u t) → (why : Option Reason) → stop m s ≡ why → (o : Outcome) → outcome m s c ≡ o → led m choices (free_only why o) ≡ Goes t → Reaches m s t
    go on None free (Goes u) goes led_is =
        let more = on u led_is in
        record { states = u ∷ more.states; steps = ((free, (c, goes)), more.steps); last_is = more.last_is }
    go on None free Ends goes led_is = absurd (goes_no_further choices led_is)
    go on None free Never goes led_is = absurd (goes_nowhere choices led_is)
    go on (Some why) stops o goes led_is = absurd (goes_nowhere choices led_is)
