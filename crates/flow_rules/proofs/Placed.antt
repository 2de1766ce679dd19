-- Where the instructions and the labels of a function stand in the code of its module.
use Rattle.std.proofs.Common.{◌≡◌, ◌∙◌, ℕ, zero, suc, ◌+◌, ◌<◌, ◌≤◌, nat_lt, nat_le, Bool, true, false, ◌&&◌, Option, Some, None, Ok, List, [], ◌∷◌, ◌++◌, length, refl, sym, ap, subst, arith}
use Rattle.std.specs.List.{AllZip, find, slice_get}
use Rattle.std.specs.Option.{option_map}
use Rattle.std.proofs.lemmas.Bool.{and_from, le-leb, lt-ltb}
use Rattle.std.proofs.lemmas.Bool.Decides.{nat_tests}
use Rattle.std.proofs.lemmas.List.{length-map}
use Rattle.std.proofs.lemmas.Option.{same_Some, slice_get-map, slice_get_within}
use Rattle.op_table.specs.declared.plans.Plan.{Plan}
use Rattle.op_table.specs.Instruction.{Instruction}
use Rattle.op_table.specs.Planning.{plan_of}
use Rattle.func_split.specs.declared.mark.Mark.{Mark}
use Rattle.func_split.specs.declared.mark.Mark.TheVariants as marks
use Rattle.func_split.specs.Faults.{is_label}
use Rattle.func_split.specs.Functions.{AreFrom, IsEntry, IsSplit, Piece}
use Rattle.func_split.specs.Marks.{IsLabelAt, mark_of, marks_of}
use Rattle.beam_module.specs.Module.{ModuleValue}
use Rattle.action_rules.specs.declared.reason.Reason.{Reason}
use Rattle.code_faults.specs.Ending.{ends}
use Rattle.flow_rules.specs.Body.{place_in}
use Rattle.flow_rules.specs.Making.{HasPlan}
use Rattle.flow_rules.specs.Machine.{function_at, has_next_in, has_next_at, is_inside, label_place, plan_at, found_plan, plan_or_fault}

-- ---- lists

front_at : {X : Type 0} (xs ys : List X) (k : ℕ) → k < length xs → slice_get (xs ++ ys) k ≡ slice_get xs k
front_at [] ys k below = absurd (omega (arith, below))
front_at (x ∷ xs) ys zero below = refl
front_at (x ∷ xs) ys (suc k) below = front_at xs ys k (omega (arith, below))

behind_at : {X : Type 0} (xs ys : List X) (k : ℕ) → slice_get (xs ++ ys) (length xs + k) ≡ slice_get ys k
behind_at [] ys k = ap (slice_get ys) (omega arith)
behind_at (x ∷ xs) ys k =
    let later : suc (length xs) + k ≡ suc (length xs + k) = omega arith in
    ap (slice_get (x ∷ (xs ++ ys))) later ∙ behind_at xs ys k

-- what stands at a place of the second list has a partner
pub zip_at : {X Y : Type 0} (R : X → Y → Type 0) (xs : List X) (ys : List Y) → AllZip R xs ys → (k : ℕ) (y : Y) → slice_get ys k ≡ Some y → (x : X) × (slice_get xs k ≡ Some x) × R x y
zip_at R [] [] all k y is = absurd cc
zip_at R [] (z ∷ ys) all k y is = elim all [ ]
zip_at R (x ∷ xs) [] all k y is = absurd cc
zip_at R (x ∷ xs) (z ∷ ys) all zero y is = (x, refl, subst (R x) (same_Some z y is) all.0)
zip_at R (x ∷ xs) (z ∷ ys) all (suc k) y is = zip_at R xs ys all.1 k y is

-- ---- functions

inside : (f : Piece) (k : ℕ) → k < length f.instrs → is_inside (f.first + k) f ≡ true
inside f k below = and_from _ _ (le-leb f.first (f.first + k) (omega arith)) (lt-ltb (f.first + k) (f.first + length f.instrs) (omega (arith, below)))

past : (first size place : ℕ) → first + size ≤ place → (nat_le first place && nat_lt place (first + size)) ≡ false
past first size place behind = grind (arith, nat_tests)

-- from this place on, the function stands so far behind it
record Stands (place : ℕ) (functions : List Piece) (code : List Instruction) (f : Piece) : Type 0 where
  behind : ℕ
  first : f.first ≡ place + behind
  instrs : (k : ℕ) → k < length f.instrs → slice_get code (behind + k) ≡ slice_get f.instrs k
  found : (k : ℕ) → k < length f.instrs → find (is_inside (f.first + k)) functions ≡ Some f

stands : (place : ℕ) (functions : List Piece) (code : List Instruction) → AreFrom place functions code → (n : ℕ) (f : Piece) → slice_get functions n ≡ Some f → Stands place functions code f
stands place [] code are n f is = absurd cc
stands place (g ∷ functions) code are zero f is =
    let same : g ≡ f = same_Some g f is in
    subst (Stands place (g ∷ functions) code) same (record {
      behind = 0;
      first = let first = are.0 in omega (arith, first);
      instrs = λ k below.
          let none : 0 + k ≡ k = omega arith in
          ap (λ (c : List Instruction). slice_get c (0 + k)) are.1.1 ∙ (ap (slice_get (g.instrs ++ are.1.0)) none ∙ front_at g.instrs are.1.0 k below);
      found = λ k below. rw (inside g k below) refl;
    })
stands place (g ∷ functions) code are (suc n) f is =
    let later = stands (place + length g.instrs) functions are.1.0 are.1.2 n f is in
    let first = are.0 in
    let far = later.first in
    record {
      behind = length g.instrs + later.behind;
      first = omega (arith, far);
      instrs = λ k below.
          let further : length g.instrs + later.behind + k ≡ length g.instrs + (later.behind + k) = omega arith in
          ap (λ (c : List Instruction). slice_get c (length g.instrs + later.behind + k)) are.1.1 ∙ (ap (slice_get (g.instrs ++ are.1.0)) further ∙ (behind_at g.instrs are.1.0 (later.behind + k) ∙ later.instrs k below));
      found = λ k below.
          let not_here : is_inside (f.first + k) g ≡ false = past g.first (length g.instrs) (f.first + k) (omega (arith, first, far)) in
          rw not_here (later.found k below);
    }

-- ---- labels

label_is : (label : ℕ) (mark : Mark) → is_label label mark ≡ true → mark ≡ marks.Label (Some label)
label_is label (marks.Label (Some other)) is = let same : other ≡ label = grind (arith, nat_tests) in ap (λ (n : ℕ). marks.Label (Some n)) same
label_is label (marks.Label None) is = absurd cc
label_is label marks.Line is = absurd cc
label_is label (marks.Func head) is = absurd cc
label_is label marks.Close is = absurd cc
label_is label marks.Other is = absurd cc

-- where a label is found, it stands
placed : (label : ℕ) (ms : List Mark) → place_in ms label < length ms → IsLabelAt ms (place_in ms label) label
placed label [] below = absurd (omega (arith, below))
placed label (m ∷ ms) below = go (is_label label m) refl (placed label ms) where
  go : (is : Bool) → is_label label m ≡ is → (place_in ms label < length ms → IsLabelAt ms (place_in ms label) label) → IsLabelAt (m ∷ ms) (place_in (m ∷ ms) label) label
  go true is later = let same = label_is label m is in rw is (ap Some same)
  go false is later =
      let here : suc (place_in ms label) < length (m ∷ ms) = rw is at below in
      let rest = later (omega (arith, here)) in
      rw is rest

-- what stands somewhere is found
found_before : (label : ℕ) (ms : List Mark) (k : ℕ) → IsLabelAt ms k label → place_in ms label < length ms
found_before label [] k is = absurd cc
found_before label (m ∷ ms) k is = go (is_label label m) refl k is (found_before label ms) where
  go : (here : Bool) → is_label label m ≡ here → (j : ℕ) → IsLabelAt (m ∷ ms) j label → ((i : ℕ) → IsLabelAt ms i label → place_in ms label < length ms) → place_in (m ∷ ms) label < length (m ∷ ms)
  go true here j at rest = rw here (omega arith)
  go false here zero at rest =
      let same : m ≡ marks.Label (Some label) = same_Some m (marks.Label (Some label)) at in
      let itself : is_label label (marks.Label (Some label)) ≡ true = grind (arith, nat_tests) in
      let other : is_label label (marks.Label (Some label)) ≡ false = subst (λ (n : Mark). is_label label n ≡ false) same here in
      absurd cc
  go false here (suc j) at rest = let later = rest j at in rw here (omega (arith, later))

-- ---- modules

module _ (m : ModuleValue) (split : IsSplit m.code.labels m.code.instrs m.code.functions) (number : ℕ) (f : Piece) (there : slice_get m.code.functions number ≡ Some f) where
  here : Stands 0 m.code.functions m.code.instrs f
  here = stands 0 m.code.functions m.code.instrs split.pieces number f there

  instr_here : (k : ℕ) → k < length f.instrs → slice_get m.code.instrs (f.first + k) ≡ slice_get f.instrs k
  instr_here k below =
      let first = here.first in
      let same : f.first + k ≡ here.behind + k = omega (arith, first) in
      ap (slice_get m.code.instrs) same ∙ here.instrs k below

  function_here : (k : ℕ) → k < length f.instrs → function_at m (f.first + k) ≡ Some f
  function_here k below = here.found k below

  pub next_here : (k : ℕ) → k < length f.instrs → has_next_at m (f.first + k) ≡ nat_lt (k + 1) (length f.instrs)
  next_here k below = ap (has_next_in (f.first + k)) (function_here k below) ∙ next f.first k (length f.instrs) where
    next : (first k size : ℕ) → (nat_le first (first + k + 1) && nat_lt (first + k + 1) (first + size)) ≡ nat_lt (k + 1) size
    next first k size = grind (arith, nat_tests)

  pub plan_here : (k : ℕ) (i : Instruction) (p : Plan) → slice_get f.instrs k ≡ Some i → HasPlan m f i p → plan_at m (f.first + k) ≡ Ok p
  plan_here k i p is has =
      let below = slice_get_within f.instrs k i is in
      let instr = instr_here k below ∙ is in
      ap (λ (g : Option Piece). found_plan m g (slice_get m.code.instrs (f.first + k))) (function_here k below)
      ∙ (ap (found_plan m (Some f)) instr
      ∙ (ap (λ (why : Option Reason). plan_or_fault why (plan_of i (ends m i))) has.sound
      ∙ ap (plan_or_fault None) has.plan))

  mark_here : (k : ℕ) → k < length f.instrs → slice_get (marks_of m.code.instrs) (f.first + k) ≡ slice_get (marks_of f.instrs) k
  mark_here k below =
      slice_get-map mark_of m.code.instrs (f.first + k)
      ∙ (ap (option_map mark_of) (instr_here k below) ∙ sym (slice_get-map mark_of f.instrs k))

  -- a label of the function stands nowhere else
  at_label : (label k : ℕ) → IsLabelAt (marks_of f.instrs) k label → label_place m label ≡ f.first + k
  at_label label k is =
      let marked = length-map f.instrs mark_of in
      let within = slice_get_within (marks_of f.instrs) k _ is in
      let here = mark_here k (omega (arith, marked, within)) ∙ is in
      let first = placed label (marks_of m.code.instrs) (found_before label (marks_of m.code.instrs) (f.first + k) here) in
      split.once (label_place m label) (f.first + k) label first here

  pub label_here : (label : ℕ) → place_in (marks_of f.instrs) label < length f.instrs → label_place m label ≡ f.first + place_in (marks_of f.instrs) label
  label_here label below =
      let marked = length-map f.instrs mark_of in
      at_label label (place_in (marks_of f.instrs) label) (placed label (marks_of f.instrs) (omega (arith, marked, below)))

-- a function of so many arguments begins at the label
pub record Begins (m : ModuleValue) (label arity : ℕ) : Type 0 where
  pub number : ℕ
  pub function : Piece
  pub is_there : slice_get m.code.functions number ≡ Some function
  pub place : label_place m label ≡ function.first + function.entry
  pub arity_is : function.arity ≡ arity

pub begins : (m : ModuleValue) → IsSplit m.code.labels m.code.instrs m.code.functions → (label arity : ℕ) → IsEntry m.code.functions label arity → Begins m label arity
begins m split label arity is = record {
  number = is.number;
  function = is.function;
  is_there = is.is_there;
  place = at_label m split is.number is.function is.is_there label is.function.entry is.stands;
  arity_is = is.arity_is;
}
