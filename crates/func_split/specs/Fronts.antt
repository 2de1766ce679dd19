-- What is kept of the marks before an instruction, from which each next one is judged.
use Rattle.std.specs.Prelude.{◌≡◌, ℕ, Bool, true, false, if◌then◌else◌, Option, Some, None, List, [], ◌∷◌, length, is_some}
use Rattle.std.specs.BTreeMap.{BTreeMap, get}
use Rattle.std.specs.Ordering.{nat_cmp}
use Rattle.func_split.specs.declared.mark.Mark.{Mark}
use Rattle.func_split.specs.declared.mark.Mark.TheVariants as marks
use Rattle.func_split.specs.declared.before.Before.{Before}
use Rattle.func_split.specs.declared.before.Before.TheVariants as fronts
use Rattle.func_split.specs.declared.refusal.FunctionWhy.{FunctionWhy}
use Rattle.func_split.specs.declared.refusal.SplitRefusal.{SplitRefusal}
use Rattle.func_split.specs.declared.refusal.SplitRefusal.TheVariants as refusals
use Rattle.func_split.specs.declared.splitting.Extent.{Extent}
use Rattle.func_split.specs.Faults.{has_own, has_label, is_headed, is_label}
use Rattle.func_split.specs.Reading.{extents, first_fault, own_place, place_in}

-- behind a label: the entry label of a function is no label of the next
abbrev pub over_label : Before → ℕ → Before
over_label (fronts.Own label) place = fronts.Own place
over_label fronts.Headed place = fronts.Neither
over_label fronts.Neither place = fronts.Own place

abbrev pub over_line : Before → Before
over_line (fronts.Own label) = fronts.Own label
over_line fronts.Headed = fronts.Neither
over_line fronts.Neither = fronts.Neither

abbrev pub over_head : Before → Before
over_head (fronts.Own label) = fronts.Headed
over_head fronts.Headed = fronts.Neither
over_head fronts.Neither = fronts.Neither

-- what stands before the instruction behind this one
abbrev pub step : Before → ℕ → Mark → Before
step before place (marks.Label number) = over_label before place
step before place marks.Line = over_line before
step before place (marks.Func head) = over_head before
step before place marks.Close = fronts.Neither
step before place marks.Other = fronts.Neither

abbrev pub own_in : Before → Option ℕ
own_in (fronts.Own label) = Some label
own_in fronts.Headed = None
own_in fronts.Neither = None

abbrev pub is_head_in : Before → Bool
is_head_in (fronts.Own label) = false
is_head_in fronts.Headed = true
is_head_in fronts.Neither = false

-- what stands before, but for the place of the label
pub record IsBefore (before : Before) (back : List Mark) : Type 0 where
  pub own : is_some (own_in before) ≡ has_own back
  pub headed : is_head_in before ≡ is_headed back

-- the map has the labels of the marks
abbrev pub HasLabels : BTreeMap ℕ ℕ → List Mark → Type 0
HasLabels places back = (number : ℕ) → is_some (get nat_cmp places number) ≡ has_label number back

-- all that is kept of the marks before an instruction
pub record Keeps (back : List Mark) (place : ℕ) (before : Before) (places : BTreeMap ℕ ℕ) : Type 0 where
  pub count : length back ≡ place
  pub is_before : IsBefore before back
  pub own : own_in before ≡ own_place back
  pub labels : HasLabels places back

-- the place of a label where this mark at this place is that, and else the place that it had
abbrev pub noted : Mark → ℕ → ℕ → Option ℕ → Option ℕ
noted mark place number old = if is_label number mark then Some place else old

-- the function of a head behind its own label
abbrev pub extent_with : Option ℕ → ℕ → ℕ × ℕ → List Extent
extent_with None place head = []
extent_with (Some label) place head = record { first = label; info = place; name = head.0; arity = head.1 } ∷ []

-- the function that a mark at this place is the head of
abbrev pub extent_by : Before → ℕ → Mark → List Extent
extent_by before place (marks.Func (Some head)) = extent_with (own_in before) place head
extent_by before place (marks.Func None) = []
extent_by before place (marks.Label number) = []
extent_by before place marks.Line = []
extent_by before place marks.Close = []
extent_by before place marks.Other = []

-- nothing is wrong with the marks, and they have these functions and these places of labels
pub record ArePieces (labels : ℕ) (code : List Mark) (found : List Extent) (places : BTreeMap ℕ ℕ) : Type 0 where
  pub sound : first_fault labels [] code ≡ None
  pub extents_are : found ≡ extents [] code
  pub places_are : (number : ℕ) → get nat_cmp places number ≡ place_in code number

-- the refusal tells what is wrong first
abbrev pub TellsFirst : ℕ → List Mark → SplitRefusal → Type 0
TellsFirst labels code e = (told : ℕ × FunctionWhy) × (first_fault labels [] code ≡ Some told) × (e ≡ refusals.Functions told.0 told.1)
