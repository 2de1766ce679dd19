-- What is wrong with code at one of its instructions. A place is given by the marks before it, the nearest first, and by those behind it.
use Rattle.std.specs.Prelude.{◌≡◌, ℕ, suc, ◌<◌, ◌==◌, nat_lt, nat_le, Bool, true, false, not, ◌&&◌, ◌||◌, if◌then◌else◌, Some, None, List, [], ◌∷◌, ◌++◌, length}
use Rattle.std.specs.List.{AllByRecursion}
use Rattle.func_split.specs.declared.mark.Mark.{Mark}
use Rattle.func_split.specs.declared.mark.Mark.TheVariants as marks
use Rattle.func_split.specs.declared.refusal.FunctionWhy.{FunctionWhy}
use Rattle.func_split.specs.declared.refusal.FunctionWhy.TheVariants as whys
use Rattle.func_split.specs.Functions.{size_limit}

-- the marks before a place, and then the others
abbrev pub onto : List Mark → List Mark → List Mark
onto [] rest = rest
onto (m ∷ back) rest = onto back (m ∷ rest)

abbrev pub is_nil : List Mark → Bool
is_nil [] = true
is_nil (m ∷ ms) = false

-- any number of `line`, and then a `func_info`
abbrev pub leads : List Mark → Bool
leads [] = false
leads (marks.Line ∷ rest) = leads rest
leads (marks.Func head ∷ rest) = true
leads (marks.Label number ∷ rest) = false
leads (marks.Close ∷ rest) = false
leads (marks.Other ∷ rest) = false

abbrev mutual
  -- back over `line`, a label that is not the entry label of the function before
  pub has_own : List Mark → Bool
  has_own [] = false
  has_own (marks.Line ∷ back) = has_own back
  has_own (marks.Label number ∷ back) = not (is_headed back)
  has_own (marks.Func head ∷ back) = false
  has_own (marks.Close ∷ back) = false
  has_own (marks.Other ∷ back) = false

  -- right before, the `func_info` of a function, so that a label here is its entry label
  pub is_headed : List Mark → Bool
  is_headed [] = false
  is_headed (marks.Func head ∷ back) = has_own back
  is_headed (marks.Line ∷ back) = false
  is_headed (marks.Label number ∷ back) = false
  is_headed (marks.Close ∷ back) = false
  is_headed (marks.Other ∷ back) = false

-- the first label of a function
abbrev pub begins : List Mark → Mark → List Mark → Bool
begins back (marks.Label number) rest = leads rest && not (is_headed back)
begins back marks.Line rest = false
begins back (marks.Func head) rest = false
begins back marks.Close rest = false
begins back marks.Other rest = false

-- the `int_code_end` that ends the code
abbrev pub closes : Mark → List Mark → Bool
closes marks.Close rest = is_nil rest
closes (marks.Label number) rest = false
closes marks.Line rest = false
closes (marks.Func head) rest = false
closes marks.Other rest = false

-- how many instructions there are up to the next function or the end
abbrev pub size_from : List Mark → List Mark → ℕ
size_from back [] = 0
size_from back (m ∷ rest) = if begins back m rest || closes m rest then 0 else suc (size_from (m ∷ back) rest)

-- the label of this number
abbrev pub is_label : ℕ → Mark → Bool
is_label number (marks.Label (Some other)) = number == other
is_label number (marks.Label None) = false
is_label number marks.Line = false
is_label number (marks.Func head) = false
is_label number marks.Close = false
is_label number marks.Other = false

abbrev pub has_label : ℕ → List Mark → Bool
has_label number [] = false
has_label number (m ∷ ms) = is_label number m || has_label number ms

-- a label of a function, or the only `int_code_end`
abbrev pub may_start : Mark → List Mark → Bool
may_start (marks.Label number) rest = leads rest
may_start marks.Close rest = is_nil rest
may_start marks.Line rest = false
may_start (marks.Func head) rest = false
may_start marks.Other rest = false

abbrev pub begins_with_label : List Mark → Bool
begins_with_label [] = false
begins_with_label (marks.Label number ∷ rest) = true
begins_with_label (marks.Line ∷ rest) = false
begins_with_label (marks.Func head ∷ rest) = false
begins_with_label (marks.Close ∷ rest) = false
begins_with_label (marks.Other ∷ rest) = false

-- a `func_info` behind no label of its own
abbrev pub lacks_label : List Mark → Mark → Bool
lacks_label back (marks.Func head) = not (has_own back)
lacks_label back (marks.Label number) = false
lacks_label back marks.Line = false
lacks_label back marks.Close = false
lacks_label back marks.Other = false

-- a `func_info` before no label
abbrev pub lacks_entry : Mark → List Mark → Bool
lacks_entry (marks.Func head) rest = not (begins_with_label rest)
lacks_entry (marks.Label number) rest = false
lacks_entry marks.Line rest = false
lacks_entry marks.Close rest = false
lacks_entry marks.Other rest = false

-- a `label` or a `func_info` with other operands than it has to have
abbrev pub is_misshaped : Mark → Bool
is_misshaped (marks.Label None) = true
is_misshaped (marks.Label (Some number)) = false
is_misshaped (marks.Func None) = true
is_misshaped (marks.Func (Some head)) = false
is_misshaped marks.Line = false
is_misshaped marks.Close = false
is_misshaped marks.Other = false

-- a label whose number an earlier one has
abbrev pub is_second : List Mark → Mark → Bool
is_second back (marks.Label (Some number)) = has_label number back
is_second back (marks.Label None) = false
is_second back marks.Line = false
is_second back (marks.Func head) = false
is_second back marks.Close = false
is_second back marks.Other = false

-- a label whose number is 0, or the label count or more
abbrev pub is_out_of_range : ℕ → Mark → Bool
is_out_of_range labels (marks.Label (Some number)) = number == 0 || nat_le labels number
is_out_of_range labels (marks.Label None) = false
is_out_of_range labels marks.Line = false
is_out_of_range labels (marks.Func head) = false
is_out_of_range labels marks.Close = false
is_out_of_range labels marks.Other = false

-- the last instruction where it is no `int_code_end`, or another one that is
abbrev pub is_wrong_end : Mark → List Mark → Bool
is_wrong_end marks.Close rest = not (is_nil rest)
is_wrong_end (marks.Label number) rest = is_nil rest
is_wrong_end marks.Line rest = is_nil rest
is_wrong_end (marks.Func head) rest = is_nil rest
is_wrong_end marks.Other rest = is_nil rest

-- the first label of a function of too many instructions
abbrev pub is_too_long : List Mark → Mark → List Mark → Bool
is_too_long back m rest = begins back m rest && nat_lt size_limit (suc (size_from (m ∷ back) rest))

-- this is wrong at this place of code that is said to have so many labels
abbrev pub holds : ℕ → List Mark → Mark → List Mark → FunctionWhy → Bool
holds labels back m rest whys.Start = is_nil back && not (may_start m rest)
holds labels back m rest whys.NoLabel = lacks_label back m
holds labels back m rest whys.NoEntry = lacks_entry m rest
holds labels back m rest whys.Shape = is_misshaped m
holds labels back m rest whys.LabelTwice = is_second back m
holds labels back m rest whys.LabelRange = is_out_of_range labels m
holds labels back m rest whys.End = is_wrong_end m rest
holds labels back m rest whys.Long = is_too_long back m rest
holds labels back m rest whys.Count = false

-- which is told first at one place
abbrev pub order : List FunctionWhy
order = whys.Start ∷ whys.NoLabel ∷ whys.NoEntry ∷ whys.Shape ∷ whys.LabelTwice ∷ whys.LabelRange ∷ whys.End ∷ whys.Long ∷ []

-- the instruction at a place, with what stands before and behind it
pub record Around (code : List Mark) (place : ℕ) : Type 0 where
  pub back : List Mark
  pub mark : Mark
  pub rest : List Mark
  pub joined : onto back (mark ∷ rest) ≡ code
  pub place_is : length back ≡ place

abbrev pub HoldsAt : ℕ → List Mark → ℕ → FunctionWhy → Type 0
HoldsAt labels code place why = (a : Around code place) × (holds labels a.back a.mark a.rest why ≡ true)

-- the first place at which something is wrong, and the first of the order there
pub record IsFirst (labels : ℕ) (code : List Mark) (place : ℕ) (why : FunctionWhy) : Type 0 where
  pub is : HoldsAt labels code place why
  pub earlier : (before : ℕ) (other : FunctionWhy) → before < place → HoldsAt labels code before other → ⊥
  pub front : List FunctionWhy
  pub after : List FunctionWhy
  pub ordered : order ≡ front ++ why ∷ after
  pub not_before : AllByRecursion (λ other. HoldsAt labels code place other → ⊥) front

-- nothing is wrong anywhere
abbrev pub IsSound : ℕ → List Mark → Type 0
IsSound labels code = (place : ℕ) (why : FunctionWhy) → HoldsAt labels code place why → ⊥
