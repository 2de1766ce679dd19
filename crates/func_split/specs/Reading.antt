-- How code is split from the left, and what is refused first.
use Rattle.std.specs.Prelude.{◌≡◌, ◌≢◌, ℕ, suc, ◌-◌, ◌==◌, if◌then◌else◌, Option, Some, None, List, [], ◌∷◌, length, take, drop, find, option_map, Result, Ok, Err}
use Rattle.std.specs.BTreeMap.{BTreeMap, get}
use Rattle.std.specs.Ordering.{nat_cmp}
use Rattle.op_table.specs.Instruction.{Instruction}
use Rattle.func_split.specs.declared.mark.Mark.{Mark}
use Rattle.func_split.specs.declared.mark.Mark.TheVariants as marks
use Rattle.func_split.specs.declared.refusal.FunctionWhy.{FunctionWhy}
use Rattle.func_split.specs.declared.refusal.FunctionWhy.TheVariants as whys
use Rattle.func_split.specs.declared.refusal.SplitRefusal.{SplitRefusal}
use Rattle.func_split.specs.declared.refusal.SplitRefusal.TheVariants as refusals
use Rattle.func_split.specs.declared.splitting.Extent.{Extent}
use Rattle.func_split.specs.Marks.{marks_of}
use Rattle.func_split.specs.Functions.{Piece, SplitValue}
use Rattle.func_split.specs.Faults.{holds, is_headed, is_label, order}

-- what is told of this place
abbrev pub fault : ℕ → List Mark → Mark → List Mark → Option FunctionWhy
fault labels back m rest = find (holds labels back m rest) order

abbrev pub or_later : ℕ → Option FunctionWhy → Option (ℕ × FunctionWhy) → Option (ℕ × FunctionWhy)
or_later place (Some why) later = Some (place, why)
or_later place None later = later

-- what is told of the first place at which something is wrong
abbrev pub first_fault : ℕ → List Mark → List Mark → Option (ℕ × FunctionWhy)
first_fault labels back [] = None
first_fault labels back (m ∷ rest) = or_later (length back) (fault labels back m rest) (first_fault labels (m ∷ back) rest)

-- back over `line`, the place of the label that is not the entry label of the function before
abbrev pub own_place : List Mark → Option ℕ
own_place [] = None
own_place (marks.Line ∷ back) = own_place back
own_place (marks.Label number ∷ back) = if is_headed back then None else Some (length back)
own_place (marks.Func head ∷ back) = None
own_place (marks.Close ∷ back) = None
own_place (marks.Other ∷ back) = None

-- the function that a `func_info` is of
abbrev pub extent_of : List Mark → Mark → Option Extent
extent_of back (marks.Func (Some head)) = option_map (λ first. record { first = first; info = length back; name = head.0; arity = head.1 }) (own_place back)
extent_of back (marks.Func None) = None
extent_of back (marks.Label number) = None
extent_of back marks.Line = None
extent_of back marks.Close = None
extent_of back marks.Other = None

abbrev pub with_extent : Option Extent → List Extent → List Extent
with_extent (Some extent) later = extent ∷ later
with_extent None later = later

-- where the functions of the code begin and have their `func_info`
abbrev pub extents : List Mark → List Mark → List Extent
extents back [] = []
extents back (m ∷ rest) = with_extent (extent_of back m) (extents (m ∷ back) rest)

-- where a function ends: at the next, or at the last instruction of the code
abbrev pub end_before : List Instruction → List Extent → ℕ
end_before code [] = length code - 1
end_before code (extent ∷ later) = extent.first

abbrev pub piece_of : List Instruction → Extent → ℕ → Piece
piece_of code extent end = record {
  first = extent.first;
  instrs = take (end - extent.first) (drop extent.first code);
  entry = suc extent.info - extent.first;
  name = extent.name;
  arity = extent.arity;
}

abbrev pub pieces_of : List Instruction → List Extent → List Piece
pieces_of code [] = []
pieces_of code (extent ∷ later) = piece_of code extent (end_before code later) ∷ pieces_of code later

abbrev pub split_value : ℕ → List Instruction → SplitValue
split_value labels code = record { instrs = code; labels = labels; functions = pieces_of code (extents [] (marks_of code)) }

abbrev pub counted : ℕ → SplitValue → Result SplitValue SplitRefusal
counted count s = if length s.functions == count then Ok s else Err (refusals.Functions 0 whys.Count)

abbrev pub or_split : Option (ℕ × FunctionWhy) → Result SplitValue SplitRefusal → Result SplitValue SplitRefusal
or_split (Some told) s = Err (refusals.Functions told.0 told.1)
or_split None s = s

-- the code of a header that says so many labels and functions, split
unfoldable pub split_of : ℕ → ℕ → List Instruction → Result SplitValue SplitRefusal
split_of labels count [] = Err (refusals.Functions 0 whys.Start)
split_of labels count (i ∷ code) = or_split (first_fault labels [] (marks_of (i ∷ code))) (counted count (split_value labels (i ∷ code)))

-- the first place of a label
abbrev pub place_in : List Mark → ℕ → Option ℕ
place_in [] number = None
place_in (m ∷ ms) number = if is_label number m then Some 0 else option_map suc (place_in ms number)

-- what is kept of split code: where its functions stand, and where each label stands
pub record IsSplitOf (labels : ℕ) (code : List Instruction) (found : List Extent) (places : BTreeMap ℕ ℕ) : Type 0 where
  pub some : code ≢ []
  pub sound : first_fault labels [] (marks_of code) ≡ None
  pub extents_are : found ≡ extents [] (marks_of code)
  pub places_are : (number : ℕ) → get nat_cmp places number ≡ place_in (marks_of code) number
